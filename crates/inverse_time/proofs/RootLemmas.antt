-- The whole root of a number.
use Rattle.std.proofs.Common.{◌≡◌, ℕ, zero, suc, ◌+◌, ◌*◌, ◌<◌, ◌≤◌, arith, mul-le-mul, sym, inl, inr}
use Rattle.std.specs.Prelude.{nat_le}
use Rattle.std.proofs.lemmas.Bool.{le-leb, lt-leb, cases_lt}
use Rattle.sample_windows.proofs.BelowLemmas.{greatest_below_is}
use Rattle.inverse_time.specs.Multiples.{whole_root}

square_above : (r : ℕ) → r ≤ r * r
square_above zero = omega arith
square_above (suc k) = (let more : 1 * suc k ≤ suc k * suc k = mul-le-mul (omega arith) (omega arith) in omega arith)

-- the number whose square is at most x, and the next one's above
pub root_is : (x r : ℕ) → r * r ≤ x → x < (r + 1) * (r + 1) → r ≡ whole_root x
root_is x r low high = sym (greatest_below_is (x + 1) (λ root. nat_le (root * root) x) r (omega (arith, square_above r))
    (λ j above within. (let more : (r + 1) * (r + 1) ≤ j * j = mul-le-mul (omega arith) (omega arith) in lt-leb (j * j) x (omega arith)))
    (le-leb (r * r) x low))

-- a root is at least each number whose square is at most x
pub root_above : (x r least : ℕ) → x < (r + 1) * (r + 1) → least * least ≤ x → least ≤ r
root_above x r least high low = elim (cases_lt r least) [
  | inl below ↦ (let more : (r + 1) * (r + 1) ≤ least * least = mul-le-mul (omega arith) (omega arith) in absurd (omega arith))
  | inr above ↦ above
]
