use Rattle.drill.proofs.CountLemmas.{how_many}
use Rattle.drill.proofs.laws.show_how_many_frames.Goals as goal

pub returns : goal.returns
returns c = how_many
