use Rattle.std.proofs.Common.{refl, subst}
use Rattle.relay_tool.specs.Asking.{IsInRange}
use Rattle.relay_tool.specs.declared.words.Command.{Command}
use Rattle.relay_tool.proofs.top.perform.Goals as goal

pub replay-requires-clause-short : goal.replay-requires-clause-short
replay-requires-clause-short g c = subst (λ (x : Command). IsInRange x) c.in-Some-Replay.field-0-is (c.in-Some-Replay.ensures.range _ refl)

pub check-requires-clause-short : goal.check-requires-clause-short
check-requires-clause-short g c = subst (λ (x : Command). IsInRange x) c.in-Some-Check.field-0-is (c.in-Some-Check.ensures.range _ refl)

pub drill-requires-clause-seconds : goal.drill-requires-clause-seconds
drill-requires-clause-seconds g c = subst (λ (x : Command). IsInRange x) c.in-Some-Drill.field-0-is (c.in-Some-Drill.ensures.range _ refl)

pub study-requires-clause-numbers : goal.study-requires-clause-numbers
study-requires-clause-numbers g c = (subst (λ (x : Command). IsInRange x) c.in-Some-Study.field-0-is (c.in-Some-Study.ensures.range _ refl)).0

pub study-requires-clause-short : goal.study-requires-clause-short
study-requires-clause-short g c = (subst (λ (x : Command). IsInRange x) c.in-Some-Study.field-0-is (c.in-Some-Study.ensures.range _ refl)).1

pub record-requires-clause-numbers : goal.record-requires-clause-numbers
record-requires-clause-numbers g c = subst (λ (x : Command). IsInRange x) c.in-Some-Record.field-0-is (c.in-Some-Record.ensures.range _ refl)
