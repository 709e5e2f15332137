-- The takes that timers stand for, the newest first: each run that they count is the run of takes at which that loop
-- was inside, or one more than the loop's delay where that is less.
use Rattle.std.specs.Prelude.{ℕ, ◌≡◌, ◌+◌, ◌<◌, List, [], min, slice_index, slice_index_or}
use Rattle.std.specs.List.{prefix_len}
use Rattle.zone_timers.specs.ZoneMasks.{has_loop}
use Rattle.zone_timers.specs.Operate.{delay_of}
use Rattle.zone_timers.specs.declared.Timers.{Timers}

-- a lane of a zone
abbrev pub lane : List (List ℕ) → ℕ → ℕ → ℕ
lane zones zone lp = slice_index (slice_index_or zones zone []) lp

-- timers with these delays, after these takes since the last clear
pub record StandsFor (ground_delays phase_delays : List ℕ) (takes : List (List ℕ)) (timers : Timers) : Type 0 where
  pub ends : (zone lp : ℕ) → zone < 5 → lp < 6 → lane timers.ends zone lp ≡ delay_of ground_delays phase_delays zone lp + 1
  pub runs : (zone lp : ℕ) → zone < 5 → lp < 6 →
      lane timers.runs zone lp ≡ min (prefix_len (has_loop zone lp) takes) (delay_of ground_delays phase_delays zone lp + 1)
