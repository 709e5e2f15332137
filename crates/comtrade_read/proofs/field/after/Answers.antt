use Rattle.std.proofs.lemmas.Bool.Decides.{Decides-eqb}
use Rattle.std.proofs.lemmas.Slice.Eq.{strip_prefix_is}
use Rattle.comtrade_read.proofs.FieldLemmas.{stripped, stripped-each}
use Rattle.comtrade_read.proofs.field.after.Goals as goal

pub returns-clause-sound : goal.returns-clause-sound
returns-clause-sound c = stripped c.args.text.now c.args.word.now c.strip_prefix.result (strip_prefix_is Decides-eqb c.args.text.now c.args.word.now c.strip_prefix.result c.strip_prefix.ensures.cases)

pub returns-clause-complete : goal.returns-clause-complete
returns-clause-complete c = stripped-each c.args.text.now c.args.word.now c.strip_prefix.result (strip_prefix_is Decides-eqb c.args.text.now c.args.word.now c.strip_prefix.result c.strip_prefix.ensures.cases)
