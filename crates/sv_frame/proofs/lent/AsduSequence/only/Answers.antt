use Rattle.std.proofs.Common.{◌<◌, length, drop, sym, arith}
use Rattle.std.proofs.lemmas.List.{drop_all, length-drop}
use Rattle.sv_frame.specs.Asdu.{plain_asdu}
use Rattle.sv_frame.proofs.SequenceLemmas.{one_breaks, one_other, one_passes, one_good, one_bad}
use Rattle.sv_frame.proofs.lent.AsduSequence.only.Goals as goal

pub returns-in_default-clause-exact : goal.returns-in_default-clause-exact
returns-in_default-clause-exact g c = one_breaks _ _ c.requires.one c.in_default.ensures.exact

pub returns-then-text-ne-ASDU-clause-exact : goal.returns-then-text-ne-ASDU-clause-exact
returns-then-text-ne-ASDU-clause-exact g c = one_other _ _ c.requires.one _ _ c.in-Ok.ensures.exact c.if-text-ne-ASDU.true

pub returns-then-text-self-clause-exact : goal.returns-then-text-self-clause-exact
returns-then-text-self-clause-exact g c =
    let some : 0 < length (drop c.in-Ok.text.end c.args.self.now.bytes.now) = omega (arith, length-drop c.in-Ok.text.end c.args.self.now.bytes.now) in
    one_passes _ _ c.requires.one _ _ c.in-Ok.ensures.exact c.if-text-ne-ASDU.false some

pub returns-in-Some-clause-exact : goal.returns-in-Some-clause-exact
returns-in-Some-clause-exact g c =
    one_good _ _ c.requires.one _ _ c.in-Ok.ensures.exact c.if-text-ne-ASDU.false (drop_all c.in-Ok.text.end c.args.self.now.bytes.now c.if-text-self.false) (plain_asdu c.in-Some.asdu) (sym c.in-Some.ensures)

pub returns-in-Some-gathered_asdu-clause-exact : goal.returns-in-Some-gathered_asdu-clause-exact
returns-in-Some-gathered_asdu-clause-exact g c =
    one_good _ _ c.requires.one _ _ c.in-Ok.ensures.exact c.if-text-ne-ASDU.false (drop_all c.in-Ok.text.end c.args.self.now.bytes.now c.if-text-self.false) (plain_asdu c.in-Some-gathered_asdu.asdu) c.in-Some-gathered_asdu.ensures.exact

pub returns-in-None-gathered_asdu-clause-exact : goal.returns-in-None-gathered_asdu-clause-exact
returns-in-None-gathered_asdu-clause-exact g c =
    one_bad _ _ c.requires.one _ _ c.in-Ok.ensures.exact c.if-text-ne-ASDU.false (drop_all c.in-Ok.text.end c.args.self.now.bytes.now c.if-text-self.false) c.in-None-gathered_asdu.ensures.exact
