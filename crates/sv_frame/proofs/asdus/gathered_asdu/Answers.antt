use Rattle.std.proofs.Common.{◌≡◌, ◌-◌, ◌<◌, suc, length, drop, sym, ◌∙◌, arith}
use Rattle.std.proofs.lemmas.List.{drop_all, length-drop}
use Rattle.sv_frame.proofs.GatherLemmas.{starts, goes_on, falls, breaks, passes, ends}
use Rattle.sv_frame.proofs.asdus.gathered_asdu.Goals as goal

pub returns-then-left-eq0-clause-exact : goal.returns-then-left-eq0-clause-exact
returns-then-left-eq0-clause-exact g c =
    let some : 0 < length (drop c.loop-at.at c.args.text.now) = omega (arith, length-drop c.loop-at.at c.args.text.now) in
    sym (passes _ (drop c.loop-at.at c.args.text.now) _ c.if-left-eq0.true some) ∙ c.loop-at.invariant.read

pub returns-in_default-clause-exact : goal.returns-in_default-clause-exact
returns-in_default-clause-exact g c =
    let some : 0 < length (drop c.loop-at.at c.args.text.now) = omega (arith, length-drop c.loop-at.at c.args.text.now) in
    sym (breaks _ (drop c.loop-at.at c.args.text.now) _ some c.in_default.ensures.exact) ∙ c.loop-at.invariant.read

pub returns-then-not-add-clause-exact : goal.returns-then-not-add-clause-exact
returns-then-not-add-clause-exact g c =
    let fewer : c.loop-at.left ≡ suc (c.loop-at.left - 1) = omega arith in
    sym (falls _ _ (drop c.loop-at.at c.args.text.now) _ _ _ fewer c.in-Ok.ensures.exact (rw c.if-not-add.true at c.add.ensures)) ∙ c.loop-at.invariant.read

pub loop-at-init : goal.loop-at-init
loop-at-init g c = record {
  read = rw c.none-fields.ensures (starts c.args.text.now);
  here = omega arith;
  cost = omega arith;
}

pub loop-at-preserved : goal.loop-at-preserved
loop-at-preserved g c =
    let fewer : c.loop-at.left ≡ suc (c.loop-at.left - 1) = omega arith in
    record {
      read = sym (goes_on _ _ (drop c.loop-at.at c.args.text.now) _ _ _ _ fewer c.in-Ok.ensures.exact (rw c.if-not-add.false at c.add.ensures)) ∙ c.loop-at.invariant.read;
      here = omega (arith, c.in-Ok.ensures.within);
      cost = omega arith;
    }

pub returns-clause-exact : goal.returns-clause-exact
returns-clause-exact g c =
    c.asdu.ensures ∙ sym (ends _ (drop c.loop-at.at c.args.text.now) _ (drop_all c.loop-at.at c.args.text.now c.loop-at-test.false)) ∙ c.loop-at.invariant.read
