use Rattle.goose_publish.proofs.ChangeLemmas.{change_is_newest}
use Rattle.goose_publish.proofs.laws.show_change_is_newest.Goals as goal

pub returns : goal.returns
returns c = change_is_newest
