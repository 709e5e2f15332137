use Rattle.std.proofs.Common.{refl}
use Rattle.std.proofs.lemmas.List.{take_rest}
use Rattle.sv_frame.proofs.UsualLemmas.{short_element_at}
use Rattle.sv_frame.proofs.usual.field_at.Goals as goal

pub returns-clause-exact : goal.returns-clause-exact
returns-clause-exact c =
    short_element_at c.args.text.now _ c.args.at c.args.tag _ (take_rest c.args.text.now c.args.at) c.in-len2-up.len_at_least
    c.if-found-tag.false refl c.requires.tag c.if-length-ge128.false c.if-length-contents.false
