use Rattle.std.proofs.Common.{◌+◌, ◌*◌, ◌^◌, ◌∙◌, ap, lit≤, arith, rules, FitsSigned, to_z-of_z}
use Rattle.std.specs.Int.{w128}
use Rattle.relay_num.specs.declared.Cx.{Cx}
use Rattle.relay_num.proofs.Wide.{IsBelow-product, IsBelow-weaker, IsBelow-conjugate}
use Rattle.relay_num.specs.Numbers.{IsBelow, product, scaled, conjugate}
use Rattle.apparent_impedance.proofs.Sizes.{volts_below}
use Rattle.mho_zone.proofs.polarised.along.Goals as goal

pub returns-clause-size : goal.returns-clause-size
returns-clause-size c =
    let f : FitsSigned w128 c.apparent.result.re = search rules in
    let volts = volts_below 10000000 c.args.u (omega arith) (IsBelow-weaker c.args.u (2 ^ 31 + 1) (2 ^ 32) c.requires.u (lit≤ tt)) in
    let size : IsBelow (product (scaled 10000000 c.args.u) (conjugate c.args.pol)) (2 ^ 100) =
    IsBelow-weaker _ _ (2 ^ 100) (IsBelow-product (scaled 10000000 c.args.u) (conjugate c.args.pol) (10000001 * 2 ^ 32) (2 ^ 34) volts (IsBelow-conjugate c.args.pol (2 ^ 34) c.requires.pol)) (lit≤ tt) in
    rw (to_z-of_z f ∙ ap (λ (z : Cx). z.re) c.apparent.ensures) size.re
