use Rattle.apparent_impedance.proofs.Sizes.{apparent_below}
use Rattle.apparent_impedance.proofs.in_milliohms.Goals as goal

pub returns-clause-size : goal.returns-clause-size
returns-clause-size c = rw c.apparent.ensures (apparent_below c.args.u c.args.i c.requires.u c.requires.i)
