use Rattle.relay_tool.proofs.Parting.{parts-equal}
use Rattle.relay_tool.proofs.laws.show_parts_are_equal.Goals as goal

pub returns : goal.returns
returns c = parts-equal
