use Rattle.std.proofs.Common.{◌≡◌, None, refl, sym, rules}
use Rattle.drill.specs.PlanLeft.{slots_left}
use Rattle.drill.proofs.SlotLemmas.{all_given}
use Rattle.drill.proofs.plan.Plan.next_slot.Goals as goal

pub returns-in-Some : goal.returns-in-Some
unfolding slots_left
returns-in-Some c = (
  rw (← c.in-Some.ensures.value, c.in-Some.ensures.after) refl,
  c.args.self.now.within c.in-Some.slot (sym c.in-Some.ensures.value),
)

pub returns-then-self-eq0 : goal.returns-then-self-eq0
unfolding slots_left
returns-then-self-eq0 c =
    let plan = c.args.self.now in
    let none : plan.waiting ≡ None = search rules in
    let given = all_given plan.first plan.second plan.pair plan.seconds plan.generator c.if-self-ge-PAIRS.true c.if-self-eq0.true in
    (rw none given, rw c.take.ensures.after given)
