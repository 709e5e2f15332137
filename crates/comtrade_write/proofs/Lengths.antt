-- How long numbers are.
use Rattle.std.proofs.Common.{ℕ, ◌<◌, ◌≤◌, ◌^◌, length, arith}
use Rattle.std.specs.Fmt.{decimal}
use Rattle.std.proofs.lemmas.Fmt.{length-decimal-le}

pub length-nine : (n : ℕ) → n < 10 ^ 9 → length (decimal n) ≤ 9
length-nine n small = length-decimal-le 9 n (omega arith) small (omega arith)

-- the size of a signed number of 64 bits
pub length-abs : (n : ℕ) → n ≤ 2 ^ 63 → length (decimal n) ≤ 19
length-abs n small = length-decimal-le 19 n (omega arith) (omega arith) (omega arith)
