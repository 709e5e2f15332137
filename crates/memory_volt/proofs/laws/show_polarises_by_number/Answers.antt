use Rattle.memory_volt.proofs.NumberedLemmas.{polarising_numbered}
use Rattle.memory_volt.proofs.laws.show_polarises_by_number.Goals as goal

pub returns : goal.returns
returns g c number ready low plus n hold samples never rises = polarising_numbered number ready low plus n hold samples never rises
