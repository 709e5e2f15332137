-- The torque of a power against an impedance: the same whichever of the three factors are multiplied first.
use Rattle.std.proofs.Common.{◌≡◌, ◌<◌, ◌^◌, ◌*ℤ◌, ◌+ℤ◌, ◌-ℤ◌, neg_ℤ, pos, ap, sym, ◌∙◌, arith, lit≤, ℤ, FitsSigned, to_z-of_z, unsigned_abs}
use Rattle.std.specs.Int.{w128}
use Rattle.relay_num.specs.declared.Cx.{Cx}
use Rattle.relay_num.specs.Numbers.{product, difference, conjugate, opposite}
use Rattle.relay_num.proofs.Signed.{signed}
use Rattle.relay_num.proofs.Ring.{mul_comm, mul-neg, mul-add, mul-sub, add-mul, sub-mul, mul_assoc}
use Rattle.relay_num.proofs.Wide.{held, fits_128, same_parts}

neg-mul : (a b : ℤ) → neg_ℤ a *ℤ b ≡ neg_ℤ (a *ℤ b)
neg-mul a b = mul_comm (neg_ℤ a) b ∙ mul-neg b a ∙ ap neg_ℤ (mul_comm b a)

-- a product of three with its factors turned round
turned_round : (a b c : ℤ) → a *ℤ b *ℤ c ≡ c *ℤ (b *ℤ a)
turned_round a b c = mul_comm (a *ℤ b) c ∙ ap (λ t. c *ℤ t) (mul_comm a b)

last_first : (a b c : ℤ) → c *ℤ (a *ℤ b) ≡ a *ℤ (b *ℤ c)
last_first a b c = mul_comm c (a *ℤ b) ∙ mul_assoc a b c

sum_left : (a b c d : ℤ) → a -ℤ neg_ℤ b -ℤ neg_ℤ (neg_ℤ d +ℤ c) ≡ a +ℤ b +ℤ c -ℤ d
sum_left a b c d = omega (arith, signed)

sum_right : (a b c d : ℤ) → a -ℤ d -ℤ neg_ℤ (b +ℤ c) ≡ a +ℤ b +ℤ c -ℤ d
sum_right a b c d = omega (arith, signed)

-- Re(Z I conj(P)), multiplied out
torque : Cx → Cx → Cx → ℤ
torque p i z = z.re *ℤ (i.re *ℤ p.re) +ℤ z.re *ℤ (i.im *ℤ p.im) +ℤ z.im *ℤ (i.re *ℤ p.im) -ℤ z.im *ℤ (i.im *ℤ p.re)

of_power : (p i z : Cx) → (product (product p (conjugate i)) (conjugate z)).re ≡ torque p i z
unfolding torque
of_power p i z =
    rw (
      mul-neg p.im i.im,
      mul-neg p.re i.im,
      mul-neg (neg_ℤ (p.re *ℤ i.im) +ℤ p.im *ℤ i.re) z.im,
      sub-mul (p.re *ℤ i.re) (neg_ℤ (p.im *ℤ i.im)) z.re,
      add-mul (neg_ℤ (p.re *ℤ i.im)) (p.im *ℤ i.re) z.im,
      neg-mul (p.im *ℤ i.im) z.re,
      neg-mul (p.re *ℤ i.im) z.im,
      turned_round p.re i.re z.re,
      turned_round p.im i.im z.re,
      turned_round p.im i.re z.im,
      turned_round p.re i.im z.im,
    ) (sum_left (z.re *ℤ (i.re *ℤ p.re)) (z.re *ℤ (i.im *ℤ p.im)) (z.im *ℤ (i.re *ℤ p.im)) (z.im *ℤ (i.im *ℤ p.re)))

of_drop : (p i z : Cx) → (product (product z i) (conjugate p)).re ≡ torque p i z
unfolding torque
of_drop p i z =
    rw (
      mul-neg (z.re *ℤ i.im +ℤ z.im *ℤ i.re) p.im,
      sub-mul (z.re *ℤ i.re) (z.im *ℤ i.im) p.re,
      add-mul (z.re *ℤ i.im) (z.im *ℤ i.re) p.im,
      mul_assoc z.re i.re p.re,
      mul_assoc z.im i.im p.re,
      mul_assoc z.re i.im p.im,
      mul_assoc z.im i.re p.im,
    ) (sum_right (z.re *ℤ (i.re *ℤ p.re)) (z.re *ℤ (i.im *ℤ p.im)) (z.im *ℤ (i.re *ℤ p.im)) (z.im *ℤ (i.im *ℤ p.re)))

of_conjugate : (p i z : Cx) → (product p (conjugate (product z i))).re ≡ torque p i z
unfolding torque
of_conjugate p i z =
    rw (
      mul-neg p.im (z.re *ℤ i.im +ℤ z.im *ℤ i.re),
      mul-sub p.re (z.re *ℤ i.re) (z.im *ℤ i.im),
      mul-add p.im (z.re *ℤ i.im) (z.im *ℤ i.re),
      last_first z.re i.re p.re,
      last_first z.im i.im p.re,
      last_first z.re i.im p.im,
      last_first z.im i.re p.im,
    ) (sum_right (z.re *ℤ (i.re *ℤ p.re)) (z.re *ℤ (i.im *ℤ p.im)) (z.im *ℤ (i.re *ℤ p.im)) (z.im *ℤ (i.im *ℤ p.re)))

-- by the power of the polarising voltage: Re(P conj(I) conj(Z)) = Re(Z I conj(P))
pub torque_of_drop : (p i z : Cx) → (product (product p (conjugate i)) (conjugate z)).re ≡ (product (product z i) (conjugate p)).re
torque_of_drop p i z = of_power p i z ∙ sym (of_drop p i z)

-- Re(U conj(I) conj(Z)) = Re(U conj(Z I))
pub torque_of_conjugate : (u i z : Cx) → (product (product u (conjugate i)) (conjugate z)).re ≡ (product u (conjugate (product z i))).re
torque_of_conjugate u i z = of_power u i z ∙ sym (of_conjugate u i z)

apart : (a b c d : ℤ) → a -ℤ b -ℤ (c -ℤ d) ≡ a -ℤ c -ℤ (b -ℤ d)
apart a b c d = omega (arith, signed)

-- Re((D - V) conj(P)) = Re(D conj(P)) - Re(V conj(P))
pub difference_of_drop : (d v p : Cx) → (product (difference d v) (conjugate p)).re ≡ (product d (conjugate p)).re -ℤ (product v (conjugate p)).re
difference_of_drop d v p =
    rw (sub-mul d.re v.re p.re, sub-mul d.im v.im (neg_ℤ p.im))
    (apart (d.re *ℤ p.re) (v.re *ℤ p.re) (d.im *ℤ neg_ℤ p.im) (v.im *ℤ neg_ℤ p.im))

-- ---- a current turned round

minus_less : (a b : ℤ) → neg_ℤ a -ℤ neg_ℤ b ≡ neg_ℤ (a -ℤ b)
minus_less a b = omega (arith, signed)

minus_more : (a b : ℤ) → neg_ℤ a +ℤ neg_ℤ b ≡ neg_ℤ (a +ℤ b)
minus_more a b = omega (arith, signed)

pub power_turned : (u i : Cx) → product u (conjugate (opposite i)) ≡ opposite (product u (conjugate i))
power_turned u i = same_parts
    (rw (mul-neg u.re i.re, mul-neg u.im (neg_ℤ i.im)) (minus_less (u.re *ℤ i.re) (u.im *ℤ neg_ℤ i.im)))
    (rw (mul-neg u.re (neg_ℤ i.im), mul-neg u.im i.re) (minus_more (u.re *ℤ neg_ℤ i.im) (u.im *ℤ i.re)))

-- ---- as the code forms them in 128 bits

-- an opposite
pub negated : (a : ℤ) → unsigned_abs a < 2 ^ 126 → held (pos 0 -ℤ held a) ≡ neg_ℤ a
negated a h =
    let fa : FitsSigned w128 a = fits_128 a (2 ^ 126) h (lit≤ tt) in
    let f : FitsSigned w128 (neg_ℤ a) = fits_128 (neg_ℤ a) (2 ^ 126) (omega (arith, signed, h)) (lit≤ tt) in
    ap (λ t. held (pos 0 -ℤ t)) (to_z-of_z fa) ∙ ap held (zero_less a) ∙ to_z-of_z f
  where
    zero_less : (a : ℤ) → pos 0 -ℤ a ≡ neg_ℤ a
    zero_less a = omega (arith, signed)
