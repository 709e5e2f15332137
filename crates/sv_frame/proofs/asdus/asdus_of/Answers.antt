use Rattle.std.proofs.Common.{◌≡◌, ◌+◌, ◌-◌, ◌<◌, suc, length, drop, sym, ◌∙◌, arith}
use Rattle.std.proofs.lemmas.List.{drop_all, length-drop, map_push}
use Rattle.sv_frame.specs.Asdu.{plain_asdu, plain_asdus}
use Rattle.sv_frame.proofs.SequenceLemmas.{other_tag, goes_good, goes_bad, breaks, passes, ends}
use Rattle.sv_frame.proofs.asdus.asdus_of.Goals as goal

pub returns-in_default-clause-exact : goal.returns-in_default-clause-exact
returns-in_default-clause-exact g c =
    let fewer : c.loop-left.left ≡ suc (c.loop-left.left - 1) = omega arith in
    sym (breaks _ _ (drop c.loop-left.at c.args.bytes.now) _ fewer c.in_default.ensures.exact) ∙ c.loop-left.invariant.read

pub returns-then-text-ne-ASDU-clause-exact : goal.returns-then-text-ne-ASDU-clause-exact
returns-then-text-ne-ASDU-clause-exact g c =
    let fewer : c.loop-left.left ≡ suc (c.loop-left.left - 1) = omega arith in
    sym (other_tag _ _ (drop c.loop-left.at c.args.bytes.now) _ _ _ fewer c.in-Ok.ensures.exact c.if-text-ne-ASDU.true) ∙ c.loop-left.invariant.read

pub loop-left-preserved-in-Some : goal.loop-left-preserved-in-Some
loop-left-preserved-in-Some g c =
    let fewer : c.loop-left.left ≡ suc (c.loop-left.left - 1) = omega arith in
    let len : length c.push.new.self.items ≡ length c.loop-left.found.items + 1 = omega arith in
    record {
      read = rw (c.push.ensures.items, map_push) (goes_good _ _ (drop c.loop-left.at c.args.bytes.now) _ _ c.loop-left.whole (plain_asdus c.loop-left.found.items) (plain_asdu c.in-Some.asdu) _ fewer c.in-Ok.ensures.exact c.if-text-ne-ASDU.false (sym c.in-Some.ensures) c.loop-left.invariant.read);
      here = omega (arith, c.in-Ok.ensures.within);
      few = omega arith;
      all = λ is. omega (arith, c.loop-left.invariant.all is);
      cost = omega arith;
    }

pub loop-left-preserved-in-Some-gathered_asdu : goal.loop-left-preserved-in-Some-gathered_asdu
loop-left-preserved-in-Some-gathered_asdu g c =
    let fewer : c.loop-left.left ≡ suc (c.loop-left.left - 1) = omega arith in
    let len : length c.push-in-Some-gathered_asdu.new.self.items ≡ length c.loop-left.found.items + 1 = omega arith in
    record {
      read = rw (c.push-in-Some-gathered_asdu.ensures.items, map_push) (goes_good _ _ (drop c.loop-left.at c.args.bytes.now) _ _ c.loop-left.whole (plain_asdus c.loop-left.found.items) (plain_asdu c.in-Some-gathered_asdu.asdu) _ fewer c.in-Ok.ensures.exact c.if-text-ne-ASDU.false c.in-Some-gathered_asdu.ensures.exact c.loop-left.invariant.read);
      here = omega (arith, c.in-Ok.ensures.within);
      few = omega arith;
      all = λ is. omega (arith, c.loop-left.invariant.all is);
      cost = omega (arith, c.in-Some-gathered_asdu.ensures.cost);
    }

pub loop-left-preserved : goal.loop-left-preserved
loop-left-preserved g c =
    let fewer : c.loop-left.left ≡ suc (c.loop-left.left - 1) = omega arith in
    record {
      read = goes_bad _ _ (drop c.loop-left.at c.args.bytes.now) _ _ c.loop-left.whole (plain_asdus c.loop-left.found.items) _ fewer c.in-Ok.ensures.exact c.if-text-ne-ASDU.false c.in-None-gathered_asdu.ensures.exact c.loop-left.invariant.read;
      here = omega (arith, c.in-Ok.ensures.within);
      few = omega arith;
      all = λ is. absurd cc;
      cost = omega (arith, c.in-None-gathered_asdu.ensures.cost);
    }

pub returns-then-at-bytes-clause-exact : goal.returns-then-at-bytes-clause-exact
returns-then-at-bytes-clause-exact g c =
    let some : 0 < length (drop c.loop-left.at c.args.bytes.now) = omega (arith, length-drop c.loop-left.at c.args.bytes.now) in
    sym (passes _ (drop c.loop-left.at c.args.bytes.now) _ (omega arith) some) ∙ c.loop-left.invariant.read

pub returns-then-whole-clause-exact : goal.returns-then-whole-clause-exact
returns-then-whole-clause-exact g c =
    rw c.if-whole.true at (sym (ends _ (drop c.loop-left.at c.args.bytes.now) _ (omega arith) (drop_all c.loop-left.at c.args.bytes.now c.if-at-bytes.false)) ∙ c.loop-left.invariant.read)

pub returns-else-whole-clause-exact : goal.returns-else-whole-clause-exact
returns-else-whole-clause-exact g c =
    rw c.if-whole.false at (sym (ends _ (drop c.loop-left.at c.args.bytes.now) _ (omega arith) (drop_all c.loop-left.at c.args.bytes.now c.if-at-bytes.false)) ∙ c.loop-left.invariant.read)
