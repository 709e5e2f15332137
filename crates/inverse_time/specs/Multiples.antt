-- How many times the pickup current a phase current is, squared and in millionths, and the whole root of such a number.
use Rattle.std.specs.Prelude.{ℕ, ◌+◌, ◌*◌, ◌/◌, ◌^◌, min, nat_le}
use Rattle.std.specs.Int.RustNames.{unsigned_abs}
use Rattle.sample_windows.specs.Below.{greatest_below}
use Rattle.relay_num.specs.declared.Cx.{Cx}
use Rattle.relay_num.specs.Numbers.{norm}

-- The square of the multiple, in millionths and rounded down: a phasor p of n samples a cycle has the peak value
-- |p| * 64 / n, and so the square of its rms value is 2048 * |p|^2 / n^2. That a current counts as at most 20 times
-- the pickup is this project's own.
abbrev pub multiple_of : Cx → ℕ → ℕ → ℕ
multiple_of p n pickup = min 400000000 (10 ^ 6 * 2048 * unsigned_abs (norm p) / (n * n * (pickup * pickup)))

-- the greatest whole number whose square is at most x
abbrev pub whole_root : ℕ → ℕ
whole_root x = greatest_below (x + 1) (λ root. nat_le (root * root) x)
