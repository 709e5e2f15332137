use Rattle.std.proofs.Common.{◌≡◌, ◌^◌, ℤ, pos, ap, ◌∙◌, lit≤, FitsSigned, to_z-of_z, rules}
use Rattle.std.specs.Int.{w128}
use Rattle.std.specs.Int.RustNames.{int_lt}
use Rattle.relay_num.specs.declared.Cx.{Cx}
use Rattle.relay_num.specs.Numbers.{product, conjugate}
use Rattle.relay_num.proofs.Wide.{IsBelow-weaker}
use Rattle.apparent_impedance.proofs.Powers.{torque_of_drop}
use Rattle.direction.specs.Torques.{side, polarised_torque}
use Rattle.direction.proofs.sense_of_power.Goals as goal

pub mul_conj-torque-requires-clause-b : goal.mul_conj-torque-requires-clause-b
mul_conj-torque-requires-clause-b c = IsBelow-weaker c.args.zl (2 ^ 20) (2 ^ 45) c.requires.zl (lit≤ tt)

pub returns : goal.returns
returns c i p e =
    let f : FitsSigned w128 c.mul_conj-torque.result.re = search rules in
    let is : c.mul_conj-torque.result.re ≡ polarised_torque c.args.zl i p =
    ap (λ (z : Cx). z.re) c.mul_conj-torque.ensures
    ∙ ap (λ (z : Cx). (product z (conjugate c.args.zl)).re) e
    ∙ torque_of_drop p i c.args.zl in
    c.side.ensures ∙ ap (λ (t : ℤ). side (int_lt (pos 0) t) (int_lt t (pos 0))) (to_z-of_z f ∙ is)
