use Rattle.std.proofs.Common.{slice_range, arith}
use Rattle.std.proofs.lemmas.List.{drop_all}
use Rattle.sv_frame.proofs.PduLemmas.{usual_parts}
use Rattle.sv_frame.proofs.usual.usual_pdu.Goals as goal

pub returns-clause-exact : goal.returns-clause-exact
returns-clause-exact c =
    let apdu = c.args.apdu.now in
    let inner = slice_range apdu c.in_ok-outer.outer.start c.in_ok-outer.outer.end in
    usual_parts apdu inner _ _ _ _ _ c.in_ok-outer.ensures.exact (drop_all c.in_ok-outer.outer.end apdu (omega arith))
    (c.is_field.ensures c.if-not-is_field.false) c.in_ok-sequence.ensures.exact (drop_all c.in_ok-sequence.sequence.end inner (omega arith)) (omega arith)
