use Rattle.std.proofs.Common.{◌-◌, arith}
use Rattle.drill.specs.PlanLeft.{slots_left}
use Rattle.drill.proofs.SlotLemmas.{second_begins}
use Rattle.drill.proofs.plan.Plan.begin_second.Goals as goal

pub returns-clause-left : goal.returns-clause-left
unfolding slots_left
returns-clause-left c =
    let plan = c.args.self.now in
    rw (c.of-self.ensures, c.of-self-2.ensures)
    (second_begins plan.waiting plan.first plan.second plan.pair plan.seconds (plan.seconds - 1)
    plan.generator c.next_word.new.self c.next_word-2.new.self c.next_word.result c.next_word-2.result
    c.requires.pair (omega (arith, c.requires.seconds)) c.next_word.ensures c.next_word-2.ensures)
