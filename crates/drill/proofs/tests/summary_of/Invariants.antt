use Rattle.std.proofs.Common.{length}
use Rattle.drill.specs.PlanLeft.{frames_left}
use Rattle.drill.proofs.tests.summary_of.Given as goal

abbrev pub decreases-frames : goal.decreases-frames
decreases-frames l = length (frames_left l.plan)
