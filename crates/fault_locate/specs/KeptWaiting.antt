-- The trip that waits to be measured: the newest, until the first sample a cycle behind it.
use Rattle.std.specs.Prelude.{ℕ, ◌+◌, ◌-◌, ◌<◌, ◌==◌, Bool, nat_le, nat_lt, if◌then◌else◌, List, [], ◌∷◌, Option, Some, None}
use Rattle.std.specs.Option.{ForSome, option_map, option_and_then}
use Rattle.sample_windows.specs.Windows.{newest_where}
use Rattle.sample_windows.specs.Numbered.{newest_number}
use Rattle.relay_num.specs.declared.Cx.{Cx}
use Rattle.relay_num.specs.Bounds.{loop_current_bound, reach_bound}
use Rattle.relay_num.specs.Numbers.{IsBelow}
use Rattle.relay_settings.specs.declared.types.Common.{Common}
use Rattle.relay_settings.specs.Settings.{PlainLine}
use Rattle.loop_impedance.specs.Loops.{item, currents_of}
use Rattle.event_record.specs.declared.time.At.{At}
use Rattle.line_relay.specs.declared.measured.Measured.{Measured}
use Rattle.line_relay.specs.LineSamples.{Numbered, number_of_sample}
use Rattle.line_relay.specs.Inside.{k0_of, line_impedance, loop_voltage, loop_current}
use Rattle.fault_locate.specs.declared.located.Located.{Located}
use Rattle.fault_locate.specs.declared.waiting.Waiting.{Waiting}
use Rattle.fault_locate.specs.Distances.{reactance_distance, takagi_distance}
use Rattle.fault_locate.specs.TripLoops.{is_trip_at, loop_at}
use Rattle.fault_locate.specs.Locating.{current_before}

-- its loop is one of six, and the current before the fault as large as a loop's may be
pub record IsWaiting (trip : Waiting) : Type 0 where
  pub loop : trip.lp < 6
  pub before : ForSome trip.before (λ i. IsBelow i loop_current_bound)

-- the residual compensation factor and the line's impedance as large as settings allow
pub record IsModest (settings : PlainLine) : Type 0 where
  pub k0 : IsBelow (k0_of settings) 4001
  pub impedance : IsBelow (line_impedance settings) reach_bound

-- a loop's current by the phase currents
unfoldable pub current_by : PlainLine → List Cx → ℕ → Cx
current_by settings i lp = item lp (currents_of (k0_of settings) (item 0 i) (item 1 i) (item 2 i))

-- a trip at this number, after which these phase currents were those before the fault
abbrev pub waiting_by : PlainLine → ℕ → Option (List Cx) → Option ℕ → Option Waiting
waiting_by settings number before lp =
    option_map (λ l. record { number = number; lp = l; before = option_map (λ i. current_by settings i l) before }) lp

-- whether a trip is measured at this number, the first that was taken a cycle of n behind it
abbrev pub is_due : ℕ → ℕ → Waiting → Bool
is_due n number trip = nat_le n (number - trip.number)

abbrev pub due_at : ℕ → ℕ → Option Waiting → Option Waiting
due_at n number waiting = option_and_then (λ trip. if is_due n number trip then Some trip else None) waiting

abbrev pub left_at : ℕ → ℕ → Option Waiting → Option Waiting
left_at n number waiting = option_and_then (λ trip. if is_due n number trip then None else Some trip) waiting

-- what is told of a trip at this moment, by what is measured there
abbrev pub located_by_measured : PlainLine → At → Waiting → Option Measured → Located
located_by_measured settings at trip None = record { at = at; lp = trip.lp; distance = None; takagi = None }
located_by_measured settings at trip (Some m) = record {
  at = at;
  lp = trip.lp;
  distance = reactance_distance (loop_voltage m trip.lp) (loop_current settings m trip.lp) settings.line_x;
  takagi = option_and_then (λ before. takagi_distance (loop_voltage m trip.lp) (loop_current settings m trip.lp) before (line_impedance settings)) trip.before;
}

-- it is measured a whole cycle behind the trip alone
abbrev pub measured_on_time : ℕ → ℕ → Waiting → Option Measured → Option Measured
measured_on_time n number trip measured = if number - trip.number == n then measured else None

module _ (common : Common) (settings : PlainLine) where
  abbrev pub waiting_after : List Numbered → List Numbered → Option Waiting
  waiting_after [] past = None
  waiting_after (trip ∷ older) past =
      if nat_lt (newest_number number_of_sample past) (trip.number + common.n)
      then option_map (λ lp. record { number = trip.number; lp = lp; before = current_before common settings lp (trip ∷ older) }) (loop_at common settings (trip ∷ older))
      else None

  abbrev pub waiting_at : List Numbered → Option Waiting
  waiting_at past = waiting_after (newest_where (is_trip_at common settings) past) past
