use Rattle.std.proofs.Common.{◌≡◌, [], length}
use Rattle.drill.specs.PlanLeft.{slots_left, frames_left}
use Rattle.drill.proofs.plan.Plan.frame.Given as goal

abbrev pub invariant-loop-slot : goal.invariant-loop-slot
invariant-loop-slot l = record {
  left : frames_left l.self ≡ frames_left l.fn.self;
  empty : l.buf.items ≡ [];
}

abbrev pub decreases-loop-slot : goal.decreases-loop-slot
decreases-loop-slot l = length (slots_left l.self)
