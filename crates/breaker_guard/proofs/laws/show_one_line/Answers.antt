use Rattle.breaker_guard.proofs.StepLemmas.{one-line}
use Rattle.breaker_guard.proofs.laws.show_one_line.Goals as goal

pub returns : goal.returns
returns c = one-line
