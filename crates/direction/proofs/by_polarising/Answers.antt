use Rattle.direction.proofs.by_polarising.Goals as goal

pub returns : goal.returns
returns c = c.sense_of_power.ensures c.args.i c.args.p c.power.ensures.value
