-- The six loops of a distance relay: three phases to ground and three between phases, in the order AG, BG, CG, AB,
-- BC, CA (Phadke and Thorp, Computer Relaying for Power Systems).
use Rattle.std.specs.Prelude.{ℕ, List, [], ◌∷◌, pos, slice_index_or}
use Rattle.relay_num.specs.declared.Cx.{Cx}
use Rattle.relay_num.specs.Numbers.{IsBelow, sum, difference, scaled, product, turned, turned_back}

-- phase 0, 1 or 2 of three, or loop 0 to 5 of six
abbrev pub item : ℕ → List Cx → Cx
item k xs = slice_index_or xs k (record { re = pos 0; im = pos 0 })

-- the parts of each phase are below `bound` in size
pub record ArePhasesBelow (xs : List Cx) (bound : ℕ) : Type 0 where
  pub a : IsBelow (item 0 xs) bound
  pub b : IsBelow (item 1 xs) bound
  pub c : IsBelow (item 2 xs) bound

-- the parts of each loop are
pub record AreLoopsBelow (xs : List Cx) (bound : ℕ) : Type 0 where
  pub ag : IsBelow (item 0 xs) bound
  pub bg : IsBelow (item 1 xs) bound
  pub cg : IsBelow (item 2 xs) bound
  pub ab : IsBelow (item 3 xs) bound
  pub bc : IsBelow (item 4 xs) bound
  pub ca : IsBelow (item 5 xs) bound

-- the three phases, and the three differences between phases
abbrev pub voltages_of : Cx → Cx → Cx → List Cx
voltages_of a b c = a ∷ b ∷ c ∷ difference a b ∷ difference b c ∷ difference c a ∷ []

-- A ground loop's current is the phase's, compensated by k0 times the residual current; k0 is in thousandths, and so
-- is the current.
abbrev pub ground_current : Cx → Cx → Cx → Cx
ground_current k0 residual phase = sum (scaled 1000 phase) (product k0 residual)

abbrev pub currents_of : Cx → Cx → Cx → Cx → List Cx
currents_of k0 a b c =
    ground_current k0 (sum (sum a b) c) a ∷ ground_current k0 (sum (sum a b) c) b ∷ ground_current k0 (sum (sum a b) c) c
    ∷ scaled 1000 (difference a b) ∷ scaled 1000 (difference b c) ∷ scaled 1000 (difference c a) ∷ []

-- Each loop's polarising voltage, from that of phase A: phase B follows A by a third of a circle, and C by two.
abbrev pub polarising_of : Cx → List Cx
polarising_of p = voltages_of p (turned_back p) (turned p)
