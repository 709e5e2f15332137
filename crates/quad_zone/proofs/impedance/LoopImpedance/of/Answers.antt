use Rattle.std.proofs.Common.{◌∙◌, ap, rules, FitsSigned, to_z-of_z}
use Rattle.std.specs.Int.{w128}
use Rattle.relay_num.specs.declared.Cx.{Cx}
use Rattle.quad_zone.proofs.QuadLemmas.{apparent_below, norm_below, norm_sign}
use Rattle.quad_zone.proofs.impedance.LoopImpedance.of.Goals as goal

pub invariant_of-result : goal.invariant_of-result
invariant_of-result c =
    let fr : FitsSigned w128 c.apparent-apparent.result.re = search rules in
    let fi : FitsSigned w128 c.apparent-apparent.result.im = search rules in
    let fs : FitsSigned w128 c.norm.result = search rules in
    let size = apparent_below c.args.u c.args.i c.requires.u c.requires.i in
    record {
      resistance_size = rw (to_z-of_z fr ∙ ap (λ (z : Cx). z.re) c.apparent-apparent.ensures) size.re;
      reactance_size = rw (to_z-of_z fi ∙ ap (λ (z : Cx). z.im) c.apparent-apparent.ensures) size.im;
      square_size = rw (to_z-of_z fs ∙ c.norm.ensures) (norm_below c.args.i c.requires.i);
      square_sign = rw (to_z-of_z fs ∙ c.norm.ensures) (norm_sign c.args.i);
    }
