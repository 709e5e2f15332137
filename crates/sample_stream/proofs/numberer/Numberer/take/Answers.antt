use Rattle.sample_stream.proofs.Follows.{after_follows}
use Rattle.sample_stream.proofs.numberer.Numberer.take.Goals as goal

pub returns-in-Some-number-clause-next : goal.returns-in-Some-number-clause-next
returns-in-Some-number-clause-next c = rw (c.in-Some.is, c.after-outcome.ensures.outcome) (after_follows c.from-rate.result c.in-Some.last c.from-counter.result)
