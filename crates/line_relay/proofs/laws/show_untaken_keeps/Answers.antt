use Rattle.line_relay.proofs.LawLemmas.{untaken_keeps}
use Rattle.line_relay.proofs.laws.show_untaken_keeps.Goals as goal

pub returns : goal.returns
returns c = untaken_keeps
