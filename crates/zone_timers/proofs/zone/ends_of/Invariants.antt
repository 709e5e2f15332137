use Rattle.std.proofs.Common.{ℕ, ◌≡◌, ◌+◌, ◌<◌, length}
use Rattle.zone_timers.specs.Operate.{delay_of}
use Rattle.zone_timers.specs.KeptTimers.{lane}
use Rattle.zone_timers.proofs.zone.ends_of.Given as goal

abbrev pub invariant-loop-zone : goal.invariant-loop-zone
invariant-loop-zone l = record {
  sized : length l.ends ≡ 5;
  ends : (zone : ℕ) → zone < l.zone → (lp : ℕ) → lp < 6 → lane l.ends zone lp ≡ delay_of l.ground_delays l.phase_delays zone lp + 1;
}
