use Rattle.std.proofs.Common.{◌*◌}
use Rattle.drill.specs.DrawnWords.{words_from}
use Rattle.drill.specs.Slots.{slots_over}
use Rattle.drill.specs.PlanLeft.{slots_left}
use Rattle.drill.proofs.SlotLemmas.{pair_begins}
use Rattle.drill.proofs.plan.Plan.begin_pair.Goals as goal

pub returns-clause-left : goal.returns-clause-left
unfolding slots_left
returns-clause-left c =
    let plan = c.args.self.now in
    rw c.requires.waiting
    (pair_begins plan.first plan.second plan.pair (slots_over (words_from (2 * plan.seconds) plan.generator)) c.requires.pair)
