-- Sizes of numbers that were turned, and of their sums.
use Rattle.std.proofs.Common.{◌+◌, ◌^◌, ◌<◌, ◌≤◌, ℕ, ℤ, arith, unsigned_abs, ◌+ℤ◌}
use Rattle.relay_num.specs.declared.Cx.{Cx}
use Rattle.relay_num.specs.Numbers.{IsBelow, sum, turned, turned_back}
use Rattle.relay_num.proofs.Signed.{signed, one_part, size-sum}

pub turned_below : (z : Cx) → IsBelow z (2 ^ 30 + 1) → IsBelow (turned z) (2 ^ 30 + 2 ^ 28 + 2 ^ 27)
turned_below z h = record { re = omega (arith, signed, h.re, h.im, one_part z.re, one_part z.im, one_part (turned z).re); im = omega (arith, signed, h.re, h.im, one_part z.re, one_part z.im, one_part (turned z).im) }

pub turned_back_below : (z : Cx) → IsBelow z (2 ^ 30 + 1) → IsBelow (turned_back z) (2 ^ 30 + 2 ^ 28 + 2 ^ 27)
turned_back_below z h = record { re = omega (arith, signed, h.re, h.im, one_part z.re, one_part z.im, one_part (turned_back z).re); im = omega (arith, signed, h.re, h.im, one_part z.re, one_part z.im, one_part (turned_back z).im) }

part_below : (x y z : ℤ) (m n : ℕ) → unsigned_abs x < 2 ^ 30 + 1 → unsigned_abs y < m → unsigned_abs z < n → 2 ^ 30 + 1 + m + n ≤ 2 ^ 32 → unsigned_abs (x +ℤ y +ℤ z) < 2 ^ 32
part_below x y z m n h k l few = omega (arith, size-sum (x +ℤ y) z (2 ^ 30 + 1 + m) n (size-sum x y (2 ^ 30 + 1) m h k) l)

pub sum_below : (a b c : Cx) (m n : ℕ) → IsBelow a (2 ^ 30 + 1) → IsBelow b m → IsBelow c n → 2 ^ 30 + 1 + m + n ≤ 2 ^ 32 → IsBelow (sum (sum a b) c) (2 ^ 32)
sum_below a b c m n h k l few = record { re = part_below a.re b.re c.re m n h.re k.re l.re few; im = part_below a.im b.im c.im m n h.im k.im l.im few }
