use Rattle.std.proofs.Common.{◌∙◌, ap}
use Rattle.loop_impedance.specs.Loops.{item, currents_of}
use Rattle.line_relay.specs.Measured.{measured}
use Rattle.line_relay.specs.Inside.{loop_voltage, loop_current}
use Rattle.fault_locate.proofs.pairs.loop_pair.Goals as goal

pub returns-clause-u : goal.returns-clause-u
unfolding loop_voltage measured
returns-clause-u c = c.pair_of.ensures.u ∙ ap (item c.args.lp) c.loops-pairs.ensures.u

pub returns-clause-i : goal.returns-clause-i
unfolding loop_current measured
returns-clause-i c =
    c.pair_of.ensures.i ∙ ap (item c.args.lp) c.loops-pairs.ensures.i
    ∙ ap (λ k0. item c.args.lp (currents_of k0 (item 0 c.args.phasors.now) (item 1 c.args.phasors.now) (item 2 c.args.phasors.now))) c.k0.ensures
