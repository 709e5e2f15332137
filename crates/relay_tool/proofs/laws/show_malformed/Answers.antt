use Rattle.relay_tool.proofs.Parting.{malformed}
use Rattle.relay_tool.proofs.laws.show_malformed.Goals as goal

pub returns : goal.returns
returns c = malformed
