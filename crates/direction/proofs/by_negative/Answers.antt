use Rattle.std.proofs.Common.{◌≡◌, ◌^◌, ℤ, pos, ap, ◌∙◌, lit≤, FitsSigned, to_z-of_z, rules}
use Rattle.std.specs.Int.{w128}
use Rattle.std.specs.Int.RustNames.{int_lt}
use Rattle.relay_num.specs.declared.Cx.{Cx}
use Rattle.relay_num.specs.Numbers.{product, conjugate}
use Rattle.relay_num.proofs.Wide.{IsBelow-weaker}
use Rattle.apparent_impedance.proofs.Powers.{torque_of_conjugate}
use Rattle.direction.specs.Torques.{side, negative_torque}
use Rattle.direction.proofs.by_negative.Goals as goal

pub power-requires-clause-u : goal.power-requires-clause-u
power-requires-clause-u c = IsBelow-weaker c.args.u2 (2 ^ 32) (2 ^ 34) c.requires.u2 (lit≤ tt)

pub power-requires-clause-i : goal.power-requires-clause-i
power-requires-clause-i c = IsBelow-weaker c.args.i2 (2 ^ 32) (2 ^ 45) c.requires.i2 (lit≤ tt)

pub mul_conj-torque-requires-clause-b : goal.mul_conj-torque-requires-clause-b
mul_conj-torque-requires-clause-b c = IsBelow-weaker c.args.zl (2 ^ 20) (2 ^ 45) c.requires.zl (lit≤ tt)

pub returns : goal.returns
returns c =
    let f : FitsSigned w128 c.mul_conj-torque.result.re = search rules in
    let is : c.mul_conj-torque.result.re ≡ negative_torque c.args.zl c.args.u2 c.args.i2 =
    ap (λ (z : Cx). z.re) c.mul_conj-torque.ensures
    ∙ ap (λ (z : Cx). (product z (conjugate c.args.zl)).re) c.power.ensures.value
    ∙ torque_of_conjugate c.args.u2 c.args.i2 c.args.zl in
    c.side.ensures ∙ ap (λ (t : ℤ). side (int_lt t (pos 0)) (int_lt (pos 0) t)) (to_z-of_z f ∙ is)
