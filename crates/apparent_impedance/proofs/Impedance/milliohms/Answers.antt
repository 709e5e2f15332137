use Rattle.std.proofs.Common.{arith}
use Rattle.relay_num.proofs.Wide.{from_is}
use Rattle.apparent_impedance.proofs.Sizes.{exact_times}
use Rattle.apparent_impedance.proofs.Impedance.milliohms.Goals as goal

pub returns : goal.returns
returns c =
    rw (from_is _ c.args.milliohms c.from.ensures (omega (arith, c.requires)))
    (exact_times c.args.milliohms c.args.self.now.square c.requires c.args.self.now.square_size)
