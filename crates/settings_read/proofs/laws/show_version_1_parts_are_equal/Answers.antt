use Rattle.settings_read.proofs.AcceptedFacts.{version-1-equal}
use Rattle.settings_read.proofs.laws.show_version_1_parts_are_equal.Goals as goal

pub returns : goal.returns
returns c = version-1-equal
