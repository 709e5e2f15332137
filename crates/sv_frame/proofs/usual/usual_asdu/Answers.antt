use Rattle.std.proofs.Common.{◌+◌, refl, ◌∙◌, arith}
use Rattle.std.proofs.lemmas.List.{drop_all}
use Rattle.sv_frame.proofs.UsualLemmas.{five_fields, one_byte, placed}
use Rattle.sv_frame.proofs.usual.usual_asdu.Goals as goal

pub returns : goal.returns
returns c =
    let at = c.in_ok-name.name.end in
    let text = c.args.text.now in
    five_fields text _ _ _ _ _ _ _ _ _ _
    c.in_ok-name.ensures.exact
    (placed text at 0x82 2 (at + 2) (at + 4) (omega arith) (omega arith) (c.is_field.ensures c.if-not-is_field.false))
    (placed text (at + 4) 0x83 4 (at + 6) (at + 10) (omega arith) (omega arith) (c.is_field-else-not-is_field.ensures c.if-not-is_field-2.false))
    (placed text (at + 10) 0x85 1 (at + 12) (at + 13) (omega arith) (omega arith) (c.is_field-else-not-is_field-2.ensures c.if-not-is_field-3.false))
    c.in_ok-samples.ensures.exact
    (drop_all _ text (omega arith)) (omega arith) (omega arith) (omega arith)
    ∙ rw (← c.read_u16.ensures, ← c.read_u32.ensures, one_byte _) refl
