use Rattle.settings_read.proofs.AcceptedFacts.{accepted-differ}
use Rattle.settings_read.proofs.laws.show_lines_differ.Goals as goal

pub returns : goal.returns
returns c = accepted-differ
