-- Sizes at a quadrilateral, and what the code holds of its settings.
use Rattle.std.proofs.Common.{leb, le-leb, inl, inr, zero, suc, ◌&&◌, ◌≡◌, ◌+◌, ◌*◌, ◌^◌, ◌<◌, ◌≤◌, ◌≤ℤ◌, ℕ, ℤ, pos, negsuc, neg_ℤ, ◌-ℤ◌, ◌+ℤ◌, ◌*ℤ◌, FitsSigned, to_z, of_z, to_z-of_z, ap, ◌∙◌, arith, lit≤, unsigned_abs, refl, sym}
use Rattle.std.specs.Int.{w64, w128}
use Rattle.std.specs.Int.RustNames.{int_le}
use Rattle.std.proofs.lemmas.Bool.{cases_lt, lt-leb}
use Rattle.relay_num.specs.declared.Cx.{Cx}
use Rattle.relay_num.specs.Numbers.{IsBelow, conjugate, scaled, norm, opposite}
use Rattle.relay_num.proofs.Signed.{signed, size-product, size-sum, size-difference, one_part}
use Rattle.relay_num.proofs.Ring.{mul_comm, mul-neg}
use Rattle.relay_num.proofs.Wide.{held, IsBelow-product, IsBelow-weaker, IsBelow-conjugate, size-norm, fits_128}
use Rattle.relay_settings.specs.declared.types.QuadSettings.{QuadSettings}
use Rattle.relay_settings.specs.Ranges.{IsQuad}
use Rattle.apparent_impedance.specs.Impedance.{apparent, loop_scale}

-- the sizes of settings in their ranges
pub record Sizes (q : QuadSettings) : Type 0 where
  pub reach_r : unsigned_abs q.reach_r ≤ 1000000
  pub reach_x : unsigned_abs q.reach_x ≤ 1000000
  pub tilt : unsigned_abs q.tilt ≤ 1000
  pub slope : unsigned_abs q.slope ≤ 1000
  pub back_x : unsigned_abs q.back_x ≤ 1000000

between : (z : ℤ) (m : ℕ) → neg_ℤ (pos m) ≤ℤ z → z ≤ℤ pos m → unsigned_abs z ≤ m
between z m h k = omega (arith, signed, one_part z)

up_to : (z : ℤ) (low m : ℕ) → pos low ≤ℤ z → z ≤ℤ pos m → unsigned_abs z ≤ m
up_to z low m h k = omega (arith, signed, one_part z)

pub sizes : (q : QuadSettings) → IsQuad q → Sizes q
sizes q h = record {
  reach_r = up_to q.reach_r 1 1000000 h.reach_r.0 h.reach_r.1;
  reach_x = up_to q.reach_x 1 1000000 h.reach_x.0 h.reach_x.1;
  tilt = omega (arith, between q.tilt 500 h.tilt.0 h.tilt.1);
  slope = up_to q.slope 0 1000 h.slope.0 h.slope.1;
  back_x = up_to q.back_x 0 1000000 h.back_x.0 h.back_x.1;
}

pub apparent_below : (u i : Cx) → IsBelow u (2 ^ 31 + 1) → IsBelow i (2 ^ 45) → IsBelow (apparent loop_scale u i) (2 ^ 110)
apparent_below u i h k =
    let volts : IsBelow (scaled 10000000 u) (10000001 * (2 ^ 31 + 1)) = record { re = size-product (pos 10000000) u.re 10000001 (2 ^ 31 + 1) (omega arith) h.re; im = size-product (pos 10000000) u.im 10000001 (2 ^ 31 + 1) (omega arith) h.im } in
    IsBelow-weaker _ _ (2 ^ 110) (IsBelow-product (scaled 10000000 u) (conjugate i) (10000001 * (2 ^ 31 + 1)) (2 ^ 45) volts (IsBelow-conjugate i (2 ^ 45) k)) (lit≤ tt)

pub norm_below : (i : Cx) → IsBelow i (2 ^ 45) → unsigned_abs (norm i) < 2 ^ 96
norm_below i h = omega (arith, size-norm i (2 ^ 45) h)

square_is : (a : ℤ) → a *ℤ a ≡ pos (unsigned_abs a * unsigned_abs a)
square_is (pos n) = refl
square_is (negsuc n) = refl

pub norm_sign : (i : Cx) → pos 0 ≤ℤ norm i
norm_sign i = rw (square_is i.re, square_is i.im) (omega (arith, signed))

pub held_setting : (k : ℤ) → unsigned_abs k ≤ 1000000 → to_z w64 (of_z w64 k) ≡ k
held_setting k h = omega (arith, signed)

pub held_thousand : (k : ℤ) → unsigned_abs k ≤ 1000000 → to_z w64 (of_z w64 (pos 1000 *ℤ to_z w64 (of_z w64 k))) ≡ pos 1000 *ℤ k
held_thousand k h = omega (arith, signed)

pub thousand_below : (k : ℤ) → unsigned_abs k ≤ 1000000 → unsigned_abs (pos 1000 *ℤ k) < 2 ^ 30
thousand_below k h = omega (arith, size-product (pos 1000) k 1001 1000001 (omega arith) (omega arith))

pub minus_product : (k s : ℤ) → neg_ℤ (k *ℤ s) ≡ neg_ℤ k *ℤ s
minus_product k s = ap neg_ℤ (mul_comm k s) ∙ sym (mul-neg s k) ∙ mul_comm s (neg_ℤ k)

pub minus_thousand : (k s : ℤ) → neg_ℤ (pos 1000 *ℤ k *ℤ s) ≡ neg_ℤ (pos 1000) *ℤ k *ℤ s
minus_thousand k s = minus_product (pos 1000 *ℤ k) s ∙ ap (λ t. t *ℤ s) (minus_product (pos 1000) k)

-- a thousand times x, and to it or from it k times y, as the code forms them in 128 bits
pub record Tilted (x k y : ℤ) : Type 0 where
  pub sum_fits : FitsSigned w128 (held (pos 1000 *ℤ held x) +ℤ held (held k *ℤ held y))
  pub sum_is : held (held (pos 1000 *ℤ held x) +ℤ held (held k *ℤ held y)) ≡ pos 1000 *ℤ x +ℤ k *ℤ y
  pub difference_fits : FitsSigned w128 (held (pos 1000 *ℤ held x) -ℤ held (held k *ℤ held y))
  pub difference_is : held (held (pos 1000 *ℤ held x) -ℤ held (held k *ℤ held y)) ≡ pos 1000 *ℤ x -ℤ k *ℤ y

pub tilted : (x k y : ℤ) → unsigned_abs x < 2 ^ 110 → unsigned_abs k ≤ 1000 → unsigned_abs y < 2 ^ 110 → Tilted x k y
tilted x k y a b c =
    let left = size-product (pos 1000) x 1001 (2 ^ 110) (omega arith) a in
    let right = size-product k y 1001 (2 ^ 110) (omega arith) c in
    let fx : FitsSigned w128 x = fits_128 x (2 ^ 110) a (lit≤ tt) in
    let fk : FitsSigned w128 k = fits_128 k (2 ^ 20) (omega arith) (lit≤ tt) in
    let fy : FitsSigned w128 y = fits_128 y (2 ^ 110) c (lit≤ tt) in
    let fl : FitsSigned w128 (pos 1000 *ℤ x) = fits_128 _ _ left (lit≤ tt) in
    let fr : FitsSigned w128 (k *ℤ y) = fits_128 _ _ right (lit≤ tt) in
    let sum : FitsSigned w128 (pos 1000 *ℤ x +ℤ k *ℤ y) = fits_128 _ _ (size-sum (pos 1000 *ℤ x) (k *ℤ y) _ _ left right) (lit≤ tt) in
    let difference : FitsSigned w128 (pos 1000 *ℤ x -ℤ k *ℤ y) = fits_128 _ _ (size-difference (pos 1000 *ℤ x) (k *ℤ y) _ _ left right) (lit≤ tt) in
    record {
      sum_fits = simp to_z-of_z sum;
      sum_is = simp to_z-of_z;
      difference_fits = simp to_z-of_z difference;
      difference_is = simp to_z-of_z;
    }

-- a size is at most m exactly where the number is from -m to m
within_is : (z : ℤ) (m : ℕ) → leb (unsigned_abs z) m ≡ (int_le (neg_ℤ (pos m)) z && int_le z (pos m))
within_is (pos n) zero = rw (le-leb 0 n (omega arith)) refl
within_is (pos n) (suc m) = refl
within_is (negsuc n) zero = lt-leb (suc n) 0 (omega arith)
within_is (negsuc n) (suc m) = elim (cases_lt m n) [
  | inl l ↦ rw (lt-leb (suc n) (suc m) (omega arith), lt-leb n m l) refl
  | inr l ↦ rw (le-leb (suc n) (suc m) (omega arith), le-leb n m l) refl
]

pub within_reach : (side reach : ℤ) → pos 0 ≤ℤ reach → leb (unsigned_abs side) (unsigned_abs reach) ≡ (int_le (neg_ℤ reach) side && int_le side reach)
within_reach side (pos m) h = within_is side m
within_reach side (negsuc m) h = absurd (omega (arith, signed))

neg_twice : (a : ℤ) → neg_ℤ (neg_ℤ a) ≡ a
neg_twice a = omega (arith, signed)

square_turned : (a : ℤ) → neg_ℤ a *ℤ neg_ℤ a ≡ a *ℤ a
square_turned a = mul-neg (neg_ℤ a) a ∙ ap neg_ℤ (mul_comm (neg_ℤ a) a ∙ mul-neg a a) ∙ neg_twice (a *ℤ a)

pub norm_turned : (i : Cx) → norm (opposite i) ≡ norm i
norm_turned i = rw (square_turned i.re, square_turned i.im) refl
