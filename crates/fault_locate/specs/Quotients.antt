-- Quotients of whole numbers, rounded down and kept within a million to either side. The limit is this project's own.
use Rattle.std.specs.Prelude.{zero, suc, ◌≤◌, Option, Some, None, ℤ, pos, negsuc, neg_ℤ}
use Rattle.std.specs.Int.{int_max, int_min}
use Rattle.std.specs.Int.RustNames.{unsigned_abs}
use Rattle.relay_num.specs.Numbers.{floor_div}

abbrev pub limited : ℤ → ℤ
limited z = int_max (neg_ℤ (pos 1000000)) (int_min (pos 1000000) z)

-- a divided by d, which may be of either sign; there is none by 0
abbrev pub quotient_of : ℤ → ℤ → Option ℤ
quotient_of a (pos zero) = None
quotient_of a (pos (suc d)) = Some (limited (floor_div a (suc d)))
quotient_of a (negsuc d) = Some (limited (floor_div (neg_ℤ a) (suc d)))

abbrev pub IsLimited : ℤ → Type 0
IsLimited z = unsigned_abs z ≤ 1000000
