-- Products as the code forms them in 128 bits.
use Rattle.std.proofs.Common.{◌*ℤ◌, ◌≡◌, ℕ, ◌+◌, ◌*◌, ◌^◌, ◌<◌, ◌≤◌, arith, ℤ, pos, to_z-of_z, FitsSigned, unsigned_abs, lit<, lit≤}
use Rattle.std.specs.Int.{w128}
use Rattle.relay_num.proofs.Signed.{size-product}
use Rattle.relay_num.proofs.Wide.{held, fits_128}

-- a product fits, and it is exact
pub record ExactProduct (raw z : ℤ) : Type 0 where
  pub fits : FitsSigned w128 raw
  pub is : held raw ≡ z
  pub small : unsigned_abs z < 2 ^ 126

pub exact_product : (a b : ℤ) (m n : ℕ) → unsigned_abs a < m → unsigned_abs b < n → m + n + m * n ≤ 2 ^ 126 → ExactProduct (held a *ℤ held b) (a *ℤ b)
exact_product a b m n h k room =
    let fa : FitsSigned w128 a = fits_128 a m h (omega arith) in
    let fb : FitsSigned w128 b = fits_128 b n k (omega arith) in
    let size = size-product a b m n h k in
    let fab : FitsSigned w128 (a *ℤ b) = fits_128 (a *ℤ b) (m * n) size (omega arith) in
    let small : unsigned_abs (a *ℤ b) < 2 ^ 126 = omega arith in
    simp to_z-of_z (record { fits = fab; is = to_z-of_z fab; small = small })

pub thousandths : (x : ℤ) → unsigned_abs x < 2 ^ 114 → ExactProduct (held (pos 1000) *ℤ held x) (pos 1000 *ℤ x)
thousandths x h = exact_product (pos 1000) x 1001 (2 ^ 114) (lit< tt) h (lit≤ tt)

pub held_is : (x : ℤ) → unsigned_abs x < 2 ^ 114 → held x ≡ x
held_is x h = to_z-of_z (fits_128 x (2 ^ 114) h (lit≤ tt))
