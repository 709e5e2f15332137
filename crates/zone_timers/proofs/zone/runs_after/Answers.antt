use Rattle.std.proofs.Common.{arith}
use Rattle.zone_timers.proofs.LaneLemmas.{runs_are}
use Rattle.zone_timers.proofs.zone.runs_after.Goals as goal

pub returns : goal.returns
returns c lp h =
    rw (← c.from.ensures) (runs_are c.from.result c.args.runs.now c.args.ends.now lp (omega arith) (omega arith) h (c.requires lp h) (c.fits-ends lp))
