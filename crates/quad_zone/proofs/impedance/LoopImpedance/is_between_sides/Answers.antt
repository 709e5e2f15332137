use Rattle.std.proofs.Common.{rules, arith, refl, FitsSigned, to_z-of_z}
use Rattle.std.specs.Int.{w128}
use Rattle.relay_num.proofs.Signed.{signed}
use Rattle.quad_zone.proofs.QuadLemmas.{held_setting, held_thousand, thousand_below, minus_thousand, within_reach, sizes}
use Rattle.quad_zone.proofs.impedance.LoopImpedance.is_between_sides.Goals as goal

pub times-reach-requires-clause-k : goal.times-reach-requires-clause-k
times-reach-requires-clause-k c =
    rw (held_thousand c.args.q.now.reach_r (sizes c.args.q.now c.requires).reach_r) (thousand_below c.args.q.now.reach_r (sizes c.args.q.now c.requires).reach_r)

pub overflow_cast-result : goal.overflow_cast-result
overflow_cast-result c =
    let f : FitsSigned w128 c.times-reach.result = search rules in
    rw (to_z-of_z f) (omega (arith, signed, c.times-reach.ensures.sign), omega (arith, c.times-reach.ensures.size))

pub returns : goal.returns
returns c =
    let f1 : FitsSigned w128 c.leaned-side.result = search rules in
    let f2 : FitsSigned w128 c.times-reach.result = search rules in
    let fr : FitsSigned w128 c.args.self.now.resistance = search rules in
    let fx : FitsSigned w128 c.args.self.now.reactance = search rules in
    let fs : FitsSigned w128 c.args.self.now.square = search rules in
    rw (
      c.unsigned_abs.ensures.value,
      to_z-of_z f1,
      to_z-of_z f2,
      within_reach c.leaned-side.result c.times-reach.result c.times-reach.ensures.sign,
      c.leaned-side.ensures,
      c.times-reach.ensures.value,
      to_z-of_z fr,
      to_z-of_z fx,
      to_z-of_z fs,
      held_setting c.args.q.now.slope (omega (arith, (sizes c.args.q.now c.requires).slope)),
      held_thousand c.args.q.now.reach_r (sizes c.args.q.now c.requires).reach_r,
      minus_thousand,
    ) refl
