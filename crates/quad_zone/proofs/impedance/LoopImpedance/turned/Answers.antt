use Rattle.std.proofs.Common.{◌^◌, ◌∙◌, neg_ℤ, ap, sym, arith, lit≤, FitsSigned, to_z-of_z}
use Rattle.std.specs.Int.{w128}
use Rattle.relay_num.specs.declared.Cx.{Cx}
use Rattle.relay_num.specs.Numbers.{scaled}
use Rattle.relay_num.proofs.Wide.{fits_128}
use Rattle.apparent_impedance.specs.Impedance.{loop_scale}
use Rattle.apparent_impedance.proofs.Powers.{negated, power_turned}
use Rattle.quad_zone.proofs.QuadLemmas.{norm_turned}
use Rattle.quad_zone.proofs.impedance.LoopImpedance.turned.Goals as goal

pub returns : goal.returns
returns c u i formed =
    let re = negated c.args.self.now.resistance (omega (arith, c.args.self.now.resistance_size)) in
    let im = negated c.args.self.now.reactance (omega (arith, c.args.self.now.reactance_size)) in
    let f : FitsSigned w128 c.args.self.now.square = fits_128 c.args.self.now.square (2 ^ 96) c.args.self.now.square_size (lit≤ tt) in
    let turned = power_turned (scaled loop_scale u) i in
    record {
      resistance = re ∙ ap neg_ℤ formed.resistance ∙ sym (ap (λ (z : Cx). z.re) turned);
      reactance = im ∙ ap neg_ℤ formed.reactance ∙ sym (ap (λ (z : Cx). z.im) turned);
      square = to_z-of_z f ∙ formed.square ∙ sym (norm_turned i);
    }
