-- Masks of loops: a bit for each of the six, the lowest for AG, then for BG, CG, AB, BC and CA.
use Rattle.std.specs.Prelude.{ℕ, ◌+◌, ◌*◌, ◌==◌, Bool, if◌then◌else◌, List, [], ◌∷◌}
use Rattle.std.specs.Int.{bit_at}

-- the number whose bits these are, the lowest first
abbrev pub mask : List Bool → ℕ
mask [] = 0
mask (b ∷ bits) = (if b then 1 else 0) + 2 * mask bits

-- the mask of those of the six loops at which the test passes
abbrev pub loop_mask : (ℕ → Bool) → ℕ
loop_mask test = mask (test 0 ∷ test 1 ∷ test 2 ∷ test 3 ∷ test 4 ∷ test 5 ∷ [])

-- whether the loop's bit stands in the mask
abbrev pub has_bit : ℕ → ℕ → Bool
has_bit lp mask = bit_at mask lp == 1
