use Rattle.std.proofs.Common.{◌≡◌, ℤ, neg_ℤ, ◌*ℤ◌, ◌-ℤ◌, ◌+ℤ◌, ◌^◌, ◌∙◌, arith, lit≤}
use Rattle.relay_num.proofs.Signed.{signed, size-product, size-difference}
use Rattle.relay_num.proofs.Ring.{mul-neg}
use Rattle.relay_num.specs.Numbers.{IsBelow}
use Rattle.relay_num.specs.declared.Cx.{Cx}
use Rattle.relay_num.proofs.Wide.{held, Exact, exact-difference, from_is, complex}
use Rattle.fault_locate.proofs.distance.across.Goals as goal

parts : (a b : Cx) → IsBelow a (2 ^ 67) → IsBelow b (2 ^ 46) → Exact (held (held a.im *ℤ held b.re) -ℤ held (held a.re *ℤ held b.im)) (a.im *ℤ b.re -ℤ a.re *ℤ b.im) (held a.im *ℤ held b.re) (held a.re *ℤ held b.im)
parts a b h k = exact-difference a.im b.re a.re b.im (2 ^ 67) (2 ^ 46) (2 ^ 67) (2 ^ 46) (record { at_a = h.im; at_b = k.re; at_c = h.re; at_d = k.im; room = lit≤ tt })

pub overflow_sub-result : goal.overflow_sub-result
overflow_sub-result c =
    let re = from_is _ c.args.b.re c.from-b_re.ensures (omega (arith, c.requires.b.re)) in
    let im = from_is _ c.args.b.im c.from-b_im.ensures (omega (arith, c.requires.b.im)) in
    rw (re, im) (parts (complex c.args.a.re c.args.a.im) c.args.b c.requires.a c.requires.b).fits

conjugate_im : (a b c d : ℤ) → c *ℤ b -ℤ a *ℤ d ≡ a *ℤ neg_ℤ d +ℤ c *ℤ b
conjugate_im a b c d = rw (mul-neg a d) (omega (arith, signed))

pub returns-clause-value : goal.returns-clause-value
returns-clause-value c =
    let re = from_is _ c.args.b.re c.from-b_re.ensures (omega (arith, c.requires.b.re)) in
    let im = from_is _ c.args.b.im c.from-b_im.ensures (omega (arith, c.requires.b.im)) in
    rw (re, im) ((parts (complex c.args.a.re c.args.a.im) c.args.b c.requires.a c.requires.b).is ∙ conjugate_im c.args.a.re c.args.b.re c.args.a.im c.args.b.im)

pub returns-clause-size : goal.returns-clause-size
returns-clause-size c =
    let re = from_is _ c.args.b.re c.from-b_re.ensures (omega (arith, c.requires.b.re)) in
    let im = from_is _ c.args.b.im c.from-b_im.ensures (omega (arith, c.requires.b.im)) in
    rw (re, im, (parts (complex c.args.a.re c.args.a.im) c.args.b c.requires.a c.requires.b).is)
    (size-difference (c.args.a.im *ℤ c.args.b.re) (c.args.a.re *ℤ c.args.b.im) (2 ^ 113) (2 ^ 113)
    (size-product c.args.a.im c.args.b.re (2 ^ 67) (2 ^ 46) c.requires.a.im c.requires.b.re)
    (size-product c.args.a.re c.args.b.im (2 ^ 67) (2 ^ 46) c.requires.a.re c.requires.b.im))
