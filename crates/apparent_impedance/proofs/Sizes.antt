-- How great an impedance becomes, as a fraction over the square of the current's size.
use Rattle.std.proofs.Common.{◌≡◌, ℕ, ◌*◌, ◌^◌, ◌<◌, ◌≤◌, ◌*ℤ◌, ℤ, pos, arith, lit≤, unsigned_abs, FitsSigned, to_z, of_z, to_z-of_z}
use Rattle.std.specs.Int.{w64, w128}
use Rattle.std.proofs.lemmas.Int.{fits_signed_from_abs}
use Rattle.relay_num.specs.declared.Cx.{Cx}
use Rattle.relay_num.specs.Numbers.{IsBelow, scaled, conjugate, norm}
use Rattle.relay_num.proofs.Signed.{size-product}
use Rattle.relay_num.proofs.Wide.{held, fits_128, IsBelow-product, IsBelow-weaker, IsBelow-conjugate, size-norm}
use Rattle.apparent_impedance.specs.Impedance.{apparent}

-- a voltage times a scale
pub volts_below : (scale : ℕ) (u : Cx) → scale ≤ 10000000 → IsBelow u (2 ^ 32) → IsBelow (scaled scale u) (10000001 * 2 ^ 32)
volts_below scale u few h = record {
  re = size-product (pos scale) u.re 10000001 (2 ^ 32) (omega arith) h.re;
  im = size-product (pos scale) u.im 10000001 (2 ^ 32) (omega arith) h.im;
}

-- an impedance in milliohms
pub apparent_below : (u i : Cx) → IsBelow u (2 ^ 32) → IsBelow i (2 ^ 32) → IsBelow (apparent 10000 u i) (2 ^ 80)
apparent_below u i h k =
    let volts : IsBelow (scaled 10000 u) (10001 * 2 ^ 32) = record {
      re = size-product (pos 10000) u.re 10001 (2 ^ 32) (omega arith) h.re;
      im = size-product (pos 10000) u.im 10001 (2 ^ 32) (omega arith) h.im;
    } in
    IsBelow-weaker _ _ (2 ^ 80)
    (IsBelow-product (scaled 10000 u) (conjugate i) (10001 * 2 ^ 32) (2 ^ 32) volts (IsBelow-conjugate i (2 ^ 32) k)) (lit≤ tt)

pub norm_below : (i : Cx) → IsBelow i (2 ^ 32) → unsigned_abs (norm i) < 2 ^ 66
norm_below i h = omega (arith, size-norm i (2 ^ 32) h)

-- a product with so many milliohms fits
pub exact_times : (k z : ℤ) → unsigned_abs k ≤ 1000000 → unsigned_abs z < 2 ^ 66 → held (held k *ℤ held z) ≡ k *ℤ z
exact_times k z h l =
    let fk : FitsSigned w128 k = fits_128 k 1000001 (omega arith) (lit≤ tt) in
    let fz : FitsSigned w128 z = fits_128 z (2 ^ 66) l (lit≤ tt) in
    let f : FitsSigned w128 (k *ℤ z) = fits_128 _ _ (size-product k z 1000001 (2 ^ 66) (omega arith) l) (lit≤ tt) in
    simp to_z-of_z

-- a part of a voltage times a scale fits in 64 bits
pub exact_volts : (scale : ℕ) (z : ℤ) → scale ≤ 10000000 → unsigned_abs z < 2 ^ 32 →
    to_z w64 (of_z w64 (to_z w64 (of_z w64 (pos scale)) *ℤ to_z w64 (of_z w64 z))) ≡ pos scale *ℤ z
exact_volts scale z few h =
    let size = size-product (pos scale) z 10000001 (2 ^ 32) (omega arith) h in
    let fk : FitsSigned w64 (pos scale) = fits_signed_from_abs w64 _ (omega arith) in
    let fz : FitsSigned w64 z = fits_signed_from_abs w64 _ (omega arith) in
    let f : FitsSigned w64 (pos scale *ℤ z) = fits_signed_from_abs w64 _ (omega (arith, size)) in
    simp to_z-of_z
