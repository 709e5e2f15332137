use Rattle.std.proofs.Common.{◌≡◌, ◌<◌, ◌^◌, ◌∙◌, ℤ, pos, ◌-ℤ◌, Bool, true, false, refl, ap, sym, arith, lit≤, FitsSigned, to_z-of_z}
use Rattle.std.specs.Int.{w128}
use Rattle.std.specs.Int.RustNames.{int_lt, unsigned_abs}
use Rattle.std.proofs.lemmas.Int.{fits_signed_from_abs, ints}
use Rattle.relay_num.specs.declared.Cx.{Cx}
use Rattle.relay_num.specs.Numbers.{IsBelow, value_of, product, scaled, conjugate}
use Rattle.relay_num.proofs.Wide.{IsBelow-product, IsBelow-weaker, IsBelow-conjugate}
use Rattle.apparent_impedance.proofs.Powers.{torque_of_drop, difference_of_drop}
use Rattle.mho_zone.proofs.polarised.Polarised.is_inside.Goals as goal

-- Re(P conj(I) conj(Z)) is small
torque_below : (power z : Cx) → IsBelow power (2 ^ 80) → IsBelow z (2 ^ 20) → unsigned_abs (product power (conjugate z)).re < 2 ^ 125
torque_below power z h k = (IsBelow-weaker _ _ (2 ^ 125) (IsBelow-product power (conjugate z) (2 ^ 80) (2 ^ 20) h (IsBelow-conjugate z (2 ^ 20) k)) (lit≤ tt)).re

-- a number above another is above 0 where that is taken from it
above : (a b : ℤ) → int_lt a b ≡ int_lt (pos 0) (b -ℤ a)
above a b = both (int_lt a b) (int_lt (pos 0) (b -ℤ a)) refl refl
  where
    both : (s t : Bool) → int_lt a b ≡ s → int_lt (pos 0) (b -ℤ a) ≡ t → s ≡ t
    both true true e f = refl
    both true false e f = absurd (omega (arith, ints))
    both false true e f = absurd (omega (arith, ints))
    both false false e f = refl

pub returns-clause-inside : goal.returns-clause-inside
returns-clause-inside g c u i p formed =
    let size = torque_below (value_of c.args.self.now.power) c.args.z c.args.self.now.power_size c.requires.z in
    let torque : c.mul_conj.result.re ≡ (product (product c.args.z i) (conjugate p)).re =
    ap (λ (z : Cx). z.re) c.mul_conj.ensures ∙ ap (λ (w : Cx). (product w (conjugate c.args.z)).re) formed.power ∙ torque_of_drop p i c.args.z in
    let small : unsigned_abs c.mul_conj.result.re < 2 ^ 125 = rw (ap (λ (z : Cx). z.re) c.mul_conj.ensures) size in
    let fits_re : FitsSigned w128 c.mul_conj.result.re = fits_signed_from_abs w128 c.mul_conj.result.re (omega arith) in
    let fits_along : FitsSigned w128 c.args.self.now.along = fits_signed_from_abs w128 c.args.self.now.along (omega (arith, c.args.self.now.along_size)) in
    rw (to_z-of_z fits_re, to_z-of_z fits_along, above c.args.self.now.along c.mul_conj.result.re)
    (ap (int_lt (pos 0)) (ap (λ (t : ℤ). t -ℤ c.args.self.now.along) torque
    ∙ ap (λ (t : ℤ). (product (product c.args.z i) (conjugate p)).re -ℤ t) formed.along
    ∙ sym (difference_of_drop (product c.args.z i) (scaled 10000000 u) p)))
