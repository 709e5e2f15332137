use Rattle.std.proofs.Common.{◌*◌, ◌^◌, lit≤}
use Rattle.relay_num.proofs.Wide.{IsBelow-weaker}
use Rattle.apparent_impedance.proofs.Sizes.{volts_below}
use Rattle.apparent_impedance.proofs.apparent.Goals as goal

pub mul_conj-requires-clause-a : goal.mul_conj-requires-clause-a
mul_conj-requires-clause-a c =
    rw c.times.ensures (IsBelow-weaker _ (10000001 * 2 ^ 32) (2 ^ 80) (volts_below c.args.scale c.args.u c.requires.scale c.requires.u) (lit≤ tt))
