use Rattle.std.proofs.Common.{refl}
use Rattle.drill.specs.DrawnWords.{generator_of}
use Rattle.drill.specs.Slots.{pairs_from}
use Rattle.drill.specs.PlannedFrames.{frames_of}
use Rattle.drill.specs.PlanLeft.{slots_left, frames_left}
use Rattle.drill.proofs.plan.Plan.of.Goals as goal

pub returns : goal.returns
unfolding generator_of pairs_from frames_of slots_left frames_left
returns c = rw c.seed_from_u64.ensures refl
