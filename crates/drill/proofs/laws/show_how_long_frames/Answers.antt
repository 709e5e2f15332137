use Rattle.drill.proofs.CountLemmas.{how_long}
use Rattle.drill.proofs.laws.show_how_long_frames.Goals as goal

pub returns : goal.returns
returns c = how_long
