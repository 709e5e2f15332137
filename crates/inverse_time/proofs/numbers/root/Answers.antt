use Rattle.inverse_time.proofs.RootLemmas.{root_is}
use Rattle.inverse_time.proofs.numbers.root.Goals as goal

pub returns-clause-value : goal.returns-clause-value
returns-clause-value c = root_is c.args.x c.isqrt.result c.isqrt.ensures.square_le c.isqrt.ensures.next_square_gt
