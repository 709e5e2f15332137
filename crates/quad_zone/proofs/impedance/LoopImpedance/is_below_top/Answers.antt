use Rattle.std.proofs.Common.{rules, arith, refl, FitsSigned, to_z-of_z}
use Rattle.std.specs.Int.{w128}
use Rattle.quad_zone.proofs.QuadLemmas.{held_setting, held_thousand, sizes}
use Rattle.quad_zone.proofs.impedance.LoopImpedance.is_below_top.Goals as goal

pub returns : goal.returns
returns c =
    let f1 : FitsSigned w128 c.tilted.result = search rules in
    let f2 : FitsSigned w128 c.times.result = search rules in
    let fr : FitsSigned w128 c.args.self.now.resistance = search rules in
    let fx : FitsSigned w128 c.args.self.now.reactance = search rules in
    let fs : FitsSigned w128 c.args.self.now.square = search rules in
    rw (
      to_z-of_z f1,
      c.tilted.ensures,
      to_z-of_z f2,
      c.times.ensures.value,
      to_z-of_z fr,
      to_z-of_z fx,
      to_z-of_z fs,
      held_setting c.args.q.now.tilt (omega (arith, (sizes c.args.q.now c.requires).tilt)),
      held_thousand c.args.q.now.reach_x (sizes c.args.q.now c.requires).reach_x,
    ) refl
