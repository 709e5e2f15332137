use Rattle.std.proofs.Common.{◌∙◌, ap}
use Rattle.loop_impedance.specs.Loops.{item, currents_of}
use Rattle.fault_locate.specs.KeptWaiting.{current_by}
use Rattle.fault_locate.proofs.pairs.loop_current.Goals as goal

pub returns-clause-value : goal.returns-clause-value
unfolding current_by
returns-clause-value c =
    c.pair_of.ensures.i ∙ ap (item c.args.lp) c.loops-pairs.ensures.i
    ∙ ap (λ k0. item c.args.lp (currents_of k0 (item 0 c.args.currents.now) (item 1 c.args.currents.now) (item 2 c.args.currents.now))) c.k0.ensures
