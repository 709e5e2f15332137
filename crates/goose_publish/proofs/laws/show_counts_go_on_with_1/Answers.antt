use Rattle.std.proofs.Common.{refl}
use Rattle.goose_publish.specs.Publishing.{state, sequence}
use Rattle.goose_publish.proofs.laws.show_counts_go_on_with_1.Goals as goal

pub returns-clause-state : goal.returns-clause-state
unfolding state
returns-clause-state c t older changes last = rw (changes, last) refl

pub returns-clause-sequence : goal.returns-clause-sequence
unfolding sequence
returns-clause-sequence c common t older same due last = rw (same, due, last) refl
