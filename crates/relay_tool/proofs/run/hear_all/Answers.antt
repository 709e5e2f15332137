use Rattle.std.proofs.Common.{◌∙◌, sym, subst, ap, arith}
use Rattle.std.proofs.Math.ListN.{get_or-map}
use Rattle.std.proofs.lemmas.List.{length-map}
use Rattle.std.proofs.lemmas.Result.{err_from_is_err_and}
use Rattle.sv_frame.specs.Asdu.{plain_asdu, plain_asdus}
use Rattle.relay_tool.proofs.Writing.{OnlyUses-trans}
use Rattle.relay_tool.proofs.Hearing.{past-next, sets-made, sets-stopped}
use Rattle.relay_tool.proofs.run.hear_all.Goals as goal

pub returns-in_err-hear-clause-made : goal.returns-in_err-hear-clause-made
returns-in_err-hear-clause-made g c tells past stands =
    let p = err_from_is_err_and c.from_residual.result c.from_residual.ensures.1 in
    rw (p.1, p.2) (sets-stopped tells past (plain_asdus c.args.asdus.now) c.loop-asdu.asdu-index (plain_asdu c.asdu-item.result) (plain_asdu c.asdu-item.result)
    (omega (arith, length-map c.args.asdus.now plain_asdu, c.loop-asdu-test.true)) (get_or-map plain_asdu c.args.asdus.now c.loop-asdu.asdu-index c.asdu-item.result ∙ ap plain_asdu (sym c.asdu-item.is))
    (c.loop-asdu.invariant.made tells past stands) (c.in_err-hear.ensures.made tells _ (c.loop-asdu.invariant.after tells past stands)))

pub loop-asdu-preserved : goal.loop-asdu-preserved
loop-asdu-preserved g c = record {
  heard = c.in_ok-hear.ensures.counted ∙ (let h = c.loop-asdu.invariant.heard in omega arith);
  open_outputs = λ slot is. let o = c.loop-asdu.invariant.open_outputs slot is in (o.0, (c.in_ok-hear.ensures.only.each slot).ready ∙ o.1);
  only = OnlyUses-trans c.loop-asdu.invariant.only c.in_ok-hear.ensures.only;
  made = λ tells past stands.
      sets-made tells past (plain_asdus c.args.asdus.now) c.loop-asdu.asdu-index (plain_asdu c.asdu-item.result) (plain_asdu c.asdu-item.result)
      (omega (arith, length-map c.args.asdus.now plain_asdu, c.loop-asdu-test.true)) (get_or-map plain_asdu c.args.asdus.now c.loop-asdu.asdu-index c.asdu-item.result ∙ ap plain_asdu (sym c.asdu-item.is))
      (c.loop-asdu.invariant.made tells past stands) (c.in_ok-hear.ensures.made tells _ (c.loop-asdu.invariant.after tells past stands));
  after = λ tells past stands.
      subst (g.B.Bank.stands c.hear.new.self tells)
      (sym (past-next past (plain_asdus c.args.asdus.now) c.loop-asdu.asdu-index (plain_asdu c.asdu-item.result) (plain_asdu c.asdu-item.result)
      (omega (arith, length-map c.args.asdus.now plain_asdu, c.loop-asdu-test.true)) (get_or-map plain_asdu c.args.asdus.now c.loop-asdu.asdu-index c.asdu-item.result ∙ ap plain_asdu (sym c.asdu-item.is))))
      (c.in_ok-hear.ensures.after tells _ (c.loop-asdu.invariant.after tells past stands));
}
