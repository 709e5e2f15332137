-- The least current of a distance relay's loops (Phadke and Thorp, Computer Relaying for Power Systems).
use Rattle.std.specs.Prelude.{ℕ, Bool, ◌&&◌, List, [], ◌∷◌}
use Rattle.relay_num.specs.declared.Cx.{Cx}
use Rattle.relay_num.specs.Numbers.{difference, is_at_least}

-- Whether each of the loops AG, BG, CG, AB, BC and CA has it, for the currents of the phases A, B and C and 3I0.
abbrev pub allowed : Cx → Cx → Cx → Cx → ℕ → ℕ → ℕ → List Bool
allowed a b c i0 n i_min i0_min =
    (is_at_least a n i_min && is_at_least i0 n i0_min)
    ∷ (is_at_least b n i_min && is_at_least i0 n i0_min)
    ∷ (is_at_least c n i_min && is_at_least i0 n i0_min)
    ∷ is_at_least (difference a b) n i_min
    ∷ is_at_least (difference b c) n i_min
    ∷ is_at_least (difference c a) n i_min
    ∷ []
