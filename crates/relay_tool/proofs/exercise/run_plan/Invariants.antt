use Rattle.std.proofs.Common.{◌≡◌, ◌*◌, ◌≤◌, length, []}
use Rattle.relay_settings.specs.Settings.{PlainSettings}
use Rattle.drill.specs.PlanLeft.{frames_left}
use Rattle.station.specs.KeptStation.{StandsFor, frames_of, heard_of}
use Rattle.relay_tool.specs.KeptTally.{IsFew}
use Rattle.relay_tool.proofs.Drilling.{Drilled, DrillHeard}
use Rattle.relay_tool.proofs.exercise.run_plan.Given as goal

abbrev pub invariant-frames : goal.invariant-frames
invariant-frames g l = record {
  done : Drilled (frames_left l.fn.plan) l.frames (frames_left l.plan);
  counted : frames_of l.station ≡ l.frames;
  heard : heard_of l.station ≤ 16 * l.frames;
  few : IsFew (heard_of l.station) l.count;
  told : (settings : PlainSettings) → StandsFor settings [] l.fn.station → DrillHeard settings (frames_left l.fn.plan) (frames_left l.plan) l.station l.count;
}

abbrev pub decreases-frames : goal.decreases-frames
decreases-frames g l = length (frames_left l.plan)
