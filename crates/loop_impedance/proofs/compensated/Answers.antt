use Rattle.std.proofs.Common.{◌*◌, ◌^◌, arith, lit≤, pos}
use Rattle.lanes.proofs.LaneLemmas.{AllBelow-multiples, AllBelow-weaker}
use Rattle.loop_impedance.proofs.compensated.Goals as goal

pub sum8-requires-clause-a : goal.sum8-requires-clause-a
sum8-requires-clause-a c =
    rw c.multiple8.ensures (AllBelow-weaker _ (2 ^ 40 * 1001) (2 ^ 62) (AllBelow-multiples c.args.lanes.now (pos 1000) (2 ^ 40) 1001 c.requires.lanes (omega arith)) (lit≤ tt))
