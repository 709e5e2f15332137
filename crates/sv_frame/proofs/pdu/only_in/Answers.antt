use Rattle.std.proofs.Common.{length, ◌<◌, drop, sym, arith}
use Rattle.std.proofs.lemmas.List.{drop_all, length-drop}
use Rattle.sv_frame.proofs.PduLemmas.{only_none, only_one, only_more, only_other}
use Rattle.sv_frame.proofs.pdu.only_in.Goals as goal
use Rattle.sv_frame.proofs.pdu.only_in.Goals.{then-field-tag-via-then-field-tag, then-field-tag-via-else-field-tag+then-field-bytes}

pub returns-in_default-clause-exact : goal.returns-in_default-clause-exact
returns-in_default-clause-exact g c = sym (only_none c.args.tag c.args.bytes.now c.in_default.ensures.exact)

pub returns-then-field-tag-clause-exact : goal.returns-then-field-tag-clause-exact
returns-then-field-tag-clause-exact g c =
    elim c.then-field-tag.branch [
      | then-field-tag-via-then-field-tag w ↦ sym (only_other c.args.tag c.args.bytes.now _ _ c.in-Ok.ensures.exact w.if-field-tag.true)
      | then-field-tag-via-else-field-tag+then-field-bytes w ↦
          let some : 0 < length (drop c.in-Ok.field.end c.args.bytes.now) = omega (arith, length-drop c.in-Ok.field.end c.args.bytes.now, w.if-field-bytes.true) in
          sym (only_more c.args.tag c.args.bytes.now _ _ c.in-Ok.ensures.exact some)
    ]

pub returns-clause-exact : goal.returns-clause-exact
returns-clause-exact g c =
    sym (only_one c.args.tag c.args.bytes.now _ _ c.in-Ok.ensures.exact (drop_all c.in-Ok.field.end c.args.bytes.now c.if-field-bytes.false) c.if-field-tag.false)
