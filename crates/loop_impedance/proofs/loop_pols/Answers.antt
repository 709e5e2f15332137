use Rattle.std.proofs.Common.{◌^◌, lit≤}
use Rattle.relay_num.proofs.Wide.{IsBelow-weaker}
use Rattle.loop_impedance.proofs.LoopLemmas.{voltages_below, turned_below, turned_back_below}
use Rattle.loop_impedance.proofs.loop_pols.Goals as goal

pub voltages-requires-clause-b : goal.voltages-requires-clause-b
voltages-requires-clause-b c = rw c.times_a2.ensures (turned_back_below c.args.p c.requires)

pub voltages-requires-clause-c : goal.voltages-requires-clause-c
voltages-requires-clause-c c = rw c.times_a.ensures (turned_below c.args.p c.requires)

pub returns-clause-size : goal.returns-clause-size
returns-clause-size c = rw (c.voltages.ensures, c.times_a.ensures, c.times_a2.ensures) (voltages_below c.args.p _ _ (2 ^ 33) (2 ^ 34) (IsBelow-weaker _ _ (2 ^ 33) c.requires (lit≤ tt)) (turned_back_below c.args.p c.requires) (turned_below c.args.p c.requires) (lit≤ tt))
