-- The six loops in the first six of eight lanes: one vector has the real parts, one the imaginary parts.
use Rattle.std.specs.Prelude.{ℕ, List, [], ◌∷◌, ℤ, pos}
use Rattle.relay_num.specs.declared.Cx.{Cx}
use Rattle.relay_num.specs.WeightedSums.{lane}
use Rattle.lanes.specs.Lanes.{sums, differences, multiples}

-- one part of three phases: of each phase, and of the differences between phases
abbrev pub between_lanes : ℤ → ℤ → ℤ → List ℤ
between_lanes a b c =
    differences (a ∷ b ∷ c ∷ a ∷ b ∷ c ∷ pos 0 ∷ pos 0 ∷ []) (pos 0 ∷ pos 0 ∷ pos 0 ∷ b ∷ c ∷ a ∷ pos 0 ∷ pos 0 ∷ [])

-- a thousand times each, and what the ground loops share
abbrev pub compensated_lanes : List ℤ → ℤ → List ℤ
compensated_lanes lanes shared =
    sums (multiples lanes (pos 1000)) (shared ∷ shared ∷ shared ∷ pos 0 ∷ pos 0 ∷ pos 0 ∷ pos 0 ∷ pos 0 ∷ [])

-- the loops of two vectors
abbrev pub joined_lanes : List ℤ → List ℤ → List Cx
joined_lanes re im = loop 0 ∷ loop 1 ∷ loop 2 ∷ loop 3 ∷ loop 4 ∷ loop 5 ∷ []
  where
    loop : ℕ → Cx
    loop k = record { re = lane k re; im = lane k im }
