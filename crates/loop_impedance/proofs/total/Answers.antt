use Rattle.loop_impedance.proofs.LoopLemmas.{total_below}
use Rattle.loop_impedance.proofs.total.Goals as goal

pub returns-clause-size : goal.returns-clause-size
returns-clause-size c = rw (c.sum-2.ensures, c.sum.ensures) (total_below c.args.a c.args.b c.args.c c.requires.a c.requires.b c.requires.c)
