use Rattle.std.proofs.Common.{◌∙◌}
use Rattle.line_relay.proofs.front.Front.last.Goals as goal

pub returns-clause-last : goal.returns-clause-last
returns-clause-last c common settings asdus stands = c.last.ensures ∙ stands.last
