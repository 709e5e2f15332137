use Rattle.relay_tool.proofs.Parting.{apart}
use Rattle.relay_tool.proofs.laws.show_apart.Goals as goal

pub returns : goal.returns
returns c = apart
