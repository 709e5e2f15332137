use Rattle.std.proofs.Common.{◌∙◌, sym, subst, ap, arith}
use Rattle.std.proofs.Math.ListN.{get_or-map}
use Rattle.std.proofs.lemmas.List.{length-map}
use Rattle.sv_frame.specs.Asdu.{plain_asdu, plain_asdus}
use Rattle.comtrade_write.specs.KeptRecorder.{StandsFor}
use Rattle.relay_tool.proofs.Hearing.{past-next}
use Rattle.relay_tool.proofs.listen.hear_sets.Goals as goal

pub loop-asdu-preserved : goal.loop-asdu-preserved
loop-asdu-preserved g c = record {
  heard = c.hear.ensures.counted ∙ (let h = c.loop-asdu.invariant.heard in omega arith);
  after = λ common settings k past stands.
      subst (λ xs. StandsFor common settings k xs c.hear.new.self)
      (sym (past-next past (plain_asdus c.args.asdus.now) c.loop-asdu.asdu-index (plain_asdu c.asdu-item.result) (plain_asdu c.asdu-item.result)
      (omega (arith, length-map c.args.asdus.now plain_asdu, c.loop-asdu-test.true)) (get_or-map plain_asdu c.args.asdus.now c.loop-asdu.asdu-index c.asdu-item.result ∙ ap plain_asdu (sym c.asdu-item.is))))
      (c.hear.ensures.after common settings k _ (c.loop-asdu.invariant.after common settings k past stands));
}
