use Rattle.inverse_time.proofs.RootLemmas.{root_above}
use Rattle.inverse_time.proofs.curve.excess.Goals as goal

pub overflow_sub-result : goal.overflow_sub-result
overflow_sub-result c = root_above c.args.square c.root.result 1000 c.root.ensures.next c.requires.low
