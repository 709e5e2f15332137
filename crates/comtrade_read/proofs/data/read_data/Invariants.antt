use Rattle.comtrade_read.proofs.DataLemmas.{SoFar}
use Rattle.comtrade_read.proofs.data.read_data.Given as goal

abbrev pub invariant-loop-i : goal.invariant-loop-i
invariant-loop-i l = SoFar l.text l.count l.samples.items l.i l.least l.left
