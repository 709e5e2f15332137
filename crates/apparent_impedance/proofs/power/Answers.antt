use Rattle.std.proofs.Common.{◌^◌, ◌∙◌, ap, lit≤}
use Rattle.relay_num.specs.declared.Cx.{Cx}
use Rattle.relay_num.specs.Numbers.{product, conjugate}
use Rattle.relay_num.proofs.Wide.{IsBelow-product, IsBelow-weaker, IsBelow-conjugate}
use Rattle.apparent_impedance.proofs.power.Goals as goal

pub returns-clause-size : goal.returns-clause-size
returns-clause-size c =
    rw (c.mul_conj.ensures ∙ ap (λ (z : Cx). product z (conjugate c.args.i)) c.wide.ensures)
    (IsBelow-weaker _ _ (2 ^ 80)
    (IsBelow-product c.args.u (conjugate c.args.i) (2 ^ 34) (2 ^ 45) c.requires.u (IsBelow-conjugate c.args.i (2 ^ 45) c.requires.i)) (lit≤ tt))
