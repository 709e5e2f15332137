use Rattle.settings_read.proofs.AcceptedFacts.{accepted-part}
use Rattle.settings_read.proofs.laws.show_zones_have_a_part.Goals as goal

pub returns : goal.returns
returns c = accepted-part
