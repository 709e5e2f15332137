use Rattle.std.proofs.Common.{◌+◌, ◌^◌, lit≤}
use Rattle.loop_impedance.proofs.LoopLemmas.{voltages_below, currents_below}
use Rattle.loop_impedance.proofs.loops.Goals as goal

pub returns-clause-u_size : goal.returns-clause-u_size
returns-clause-u_size c = rw c.voltages.ensures (voltages_below _ _ _ (2 ^ 30 + 1) (2 ^ 31 + 1) c.requires.u.a c.requires.u.b c.requires.u.c (lit≤ tt))

pub returns-clause-i_size : goal.returns-clause-i_size
returns-clause-i_size c = rw c.currents.ensures (currents_below c.args.k0 _ _ _ c.requires.k0 c.requires.i.a c.requires.i.b c.requires.i.c)
