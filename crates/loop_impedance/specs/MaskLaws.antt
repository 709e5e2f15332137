-- What holds of masks of loops: as bits of a number and as a list they say the same.
use Rattle.std.specs.Prelude.{ℕ, ◌≡◌, ◌<◌, ◌^◌, Bool, false, List, length, slice_index_or}
use Rattle.loop_impedance.specs.Masks.{mask, loop_mask, has_bit}

-- a loop's bit stands in the mask of a list exactly where the list says so at its place, and no bit above the list does
pub record MasksAgree : Type 0 where
  pub listed : (bits : List Bool) (lp : ℕ) → has_bit lp (mask bits) ≡ slice_index_or bits lp false
  pub tested : (test : ℕ → Bool) (lp : ℕ) → lp < 6 → has_bit lp (loop_mask test) ≡ test lp
  pub few : (bits : List Bool) → mask bits < 2 ^ length bits
