use Rattle.sample_stream.proofs.Congruence.{numbers_are_unique}
use Rattle.sample_stream.proofs.laws.show_numbers_are_unique.Goals as goal

pub returns : goal.returns
returns c = numbers_are_unique
