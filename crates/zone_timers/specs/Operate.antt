-- Delayed operation of a zone (Phadke and Thorp, Computer Relaying for Power Systems, on distance relaying): a zone
-- operates in a loop once it has seen the fault in that loop for the whole delay of the loop's part of the zone. Over
-- all takes, the newest first; a take has a mask of loops for each zone.
use Rattle.std.specs.Prelude.{ℕ, ◌+◌, nat_lt, Bool, if◌then◌else◌, List, slice_index}
use Rattle.zone_timers.specs.ZoneMasks.{has_loop, zone_masks}
use Rattle.sample_windows.specs.Windows.{each_of_last}

-- The delay of a loop in a zone: the ground part's for AG, BG and CG, the phase part's for AB, BC and CA.
abbrev pub delay_of : List ℕ → List ℕ → ℕ → ℕ → ℕ
delay_of ground_delays phase_delays zone lp = if nat_lt lp 3 then slice_index ground_delays zone else slice_index phase_delays zone

-- whether the loop was inside in the newest take and in the last takes before it, as many as its delay
abbrev pub operates : List ℕ → List ℕ → ℕ → ℕ → List (List ℕ) → Bool
operates ground_delays phase_delays zone lp takes = each_of_last (delay_of ground_delays phase_delays zone lp + 1) (has_loop zone lp) takes

-- the masks of the loops that operate
abbrev pub operated_masks : List ℕ → List ℕ → List (List ℕ) → List ℕ
operated_masks ground_delays phase_delays takes = zone_masks (λ zone lp. operates ground_delays phase_delays zone lp takes)
