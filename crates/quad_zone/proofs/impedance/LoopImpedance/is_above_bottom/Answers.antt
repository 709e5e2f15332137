use Rattle.std.proofs.Common.{rules, refl, FitsSigned, to_z-of_z}
use Rattle.std.specs.Int.{w128}
use Rattle.apparent_impedance.proofs.Powers.{negated}
use Rattle.quad_zone.proofs.QuadLemmas.{held_setting, minus_product, sizes}
use Rattle.quad_zone.proofs.impedance.LoopImpedance.is_above_bottom.Goals as goal

pub returns : goal.returns
returns c =
    let f : FitsSigned w128 c.args.self.now.reactance = search rules in
    let fs : FitsSigned w128 c.args.self.now.square = search rules in
    rw (
      negated c.times.result c.times.ensures.size,
      c.times.ensures.value,
      to_z-of_z f,
      to_z-of_z fs,
      held_setting c.args.q.now.back_x (sizes c.args.q.now c.requires).back_x,
      minus_product,
    ) refl
