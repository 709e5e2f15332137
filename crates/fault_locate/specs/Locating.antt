-- Where the fault of a trip lies (ANSI 21FL), over the samples that a line has taken, the newest first. It is measured once
-- for each trip, a whole cycle behind it, when the phasors are those of the fault alone; that it is told at the first
-- sample from there on, and how far back the current before the fault is taken, is this project's own.
use Rattle.std.specs.Prelude.{ℕ, ◌+◌, ◌-◌, ◌*◌, ◌==◌, Bool, true, false, ◌&&◌, nat_le, nat_lt, if◌then◌else◌, List, [], ◌∷◌, Option, Some, None}
use Rattle.std.specs.Option.{option_map, option_and_then}
use Rattle.sample_windows.specs.Windows.{newest_where}
use Rattle.sample_windows.specs.Numbered.{newest_number, up_to, held_for}
use Rattle.relay_num.specs.declared.Cx.{Cx}
use Rattle.relay_settings.specs.declared.types.Common.{Common}
use Rattle.relay_settings.specs.Settings.{PlainLine}
use Rattle.sv_frame.specs.Asdu.{PlainAsdu}
use Rattle.event_record.specs.Time.{time_of}
use Rattle.line_relay.specs.LineSamples.{Numbered, number_of_sample}
use Rattle.line_relay.specs.Outcomes.{number_taken, outcome_of, taken_samples}
use Rattle.line_relay.specs.Guards.{is_ready_at, measured_at}
use Rattle.line_relay.specs.Inside.{line_impedance, loop_voltage, loop_current}
use Rattle.fault_locate.specs.declared.located.Located.{Located}
use Rattle.fault_locate.specs.Distances.{reactance_distance, takagi_distance}
use Rattle.fault_locate.specs.TripLoops.{is_trip_at, loop_at}

-- some sample was taken
abbrev pub is_taken : List Numbered → Bool
is_taken [] = false
is_taken (s ∷ older) = true

-- the newest sample is the first at or above this number
abbrev pub is_first_from : ℕ → List Numbered → Bool
is_first_from number [] = false
is_first_from number (s ∷ older) = nat_le number s.number && nat_lt (newest_number number_of_sample older) number

module _ (common : Common) (settings : PlainLine) where
  -- a loop's voltage and current at the newest sample
  abbrev pub voltage_at : ℕ → List Numbered → Cx
  voltage_at lp past = loop_voltage (measured_at common settings past) lp

  abbrev pub current_at : ℕ → List Numbered → Cx
  current_at lp past = loop_current settings (measured_at common settings past) lp

  -- the samples up to the one two cycles before the newest
  abbrev pub two_cycles_before : List Numbered → List Numbered
  two_cycles_before past = up_to number_of_sample (newest_number number_of_sample past - 2 * common.n) past

  -- a loop's current there, where that sample is ready and each number from it on was taken
  abbrev pub current_before : ℕ → List Numbered → Option Cx
  current_before lp past =
      if held_for number_of_sample (2 * common.n + 1) is_taken past && is_ready_at common settings (two_cycles_before past)
      then Some (current_at lp (two_cycles_before past)) else None

  -- what is measured of a loop at the newest sample, with its current before the fault, where it can be measured there
  abbrev pub located_with : ℕ → Option Cx → Bool → List Numbered → Located
  located_with lp before measurable past = record {
    at = time_of common (newest_number number_of_sample past);
    lp = lp;
    distance = if measurable then reactance_distance (voltage_at lp past) (current_at lp past) settings.line_x else None;
    takagi = if measurable
        then option_and_then (λ i0. takagi_distance (voltage_at lp past) (current_at lp past) i0 (line_impedance settings)) before else None;
  }

  -- it can be at a ready sample with this number
  abbrev pub is_measurable_at : ℕ → List Numbered → Bool
  is_measurable_at number past = newest_number number_of_sample past == number && is_ready_at common settings past

  -- the line of a trip, whose sample is the newest of the first list, at the newest sample of the second
  abbrev pub located_after : List Numbered → List Numbered → Option Located
  located_after [] past = None
  located_after (trip ∷ older) past =
      if is_first_from (trip.number + common.n) past
      then option_map (λ lp. located_with lp (current_before lp (trip ∷ older)) (is_measurable_at (trip.number + common.n) past) past) (loop_at common settings (trip ∷ older))
      else None

  -- the line that the newest sample brings: that of the newest trip
  abbrev pub located_at : List Numbered → Option Located
  located_at past = located_after (newest_where (is_trip_at common settings) past) past

  -- the line that the newest of a line's own sample sets brings: none where it isn't taken
  abbrev pub located_by : Option ℕ → List Numbered → Option Located
  located_by None past = None
  located_by (Some number) past = located_at past

  abbrev pub located : List PlainAsdu → Option Located
  located [] = None
  located (a ∷ older) = located_by (number_taken (outcome_of common settings a older)) (taken_samples common settings (a ∷ older))
