use Rattle.sv_frame.proofs.UsualLemmas.{short_element_in}
use Rattle.sv_frame.proofs.usual.is_field.Goals as goal

pub returns : goal.returns
returns c is =
    short_element_in c.args.text.now c.args.at c.args.tag c.args.size c.requires.inside
    c.if-text-at.false c.if-text-at-2.false c.requires.tag c.requires.size
