-- What a breaker guard takes of each sample that a line has taken: its number, whether the trip stands there, and whether
-- current flows there. The newest stands first.
use Rattle.std.specs.Prelude.{ℕ, Bool, false, ◌&&◌, ◌||◌, List, [], ◌∷◌}
use Rattle.sample_windows.specs.Windows.{at_each}
use Rattle.sample_windows.specs.Numbered.{newest_number}
use Rattle.relay_num.specs.Numbers.{is_at_least}
use Rattle.relay_settings.specs.declared.types.Common.{Common}
use Rattle.relay_settings.specs.Settings.{PlainLine}
use Rattle.loop_impedance.specs.Loops.{item}
use Rattle.line_relay.specs.declared.measured.Measured.{Measured}
use Rattle.line_relay.specs.LineSamples.{Numbered, number_of_sample}
use Rattle.line_relay.specs.Guards.{is_ready_at, measured_at}
use Rattle.line_relay.specs.Operate.{is_tripped_at}

pub record GuardTake : Type 0 where
  pub number : ℕ
  pub trip : Bool
  pub flowing : Bool

abbrev pub take_of : ℕ → Bool → Bool → GuardTake
take_of number trip flowing = record { number = number; trip = trip; flowing = flowing }

abbrev pub number_of : GuardTake → ℕ
number_of take = take.number

-- whether the trip stands at the newest; before the first none does
abbrev pub trip_now : List GuardTake → Bool
trip_now [] = false
trip_now (t ∷ older) = t.trip

-- some phase current is at least the threshold of an open breaker
abbrev pub has_current : ℕ → ℕ → Measured → Bool
has_current n open_i m =
    is_at_least (item 0 m.currents) n open_i || is_at_least (item 1 m.currents) n open_i || is_at_least (item 2 m.currents) n open_i

module _ (common : Common) (settings : PlainLine) where
  -- current flows: the sample is ready, and a phase has current
  abbrev pub is_flowing_at : List Numbered → Bool
  is_flowing_at past = is_ready_at common settings past && has_current common.n settings.open_i (measured_at common settings past)

  abbrev pub guard_take : List Numbered → GuardTake
  guard_take past = take_of (newest_number number_of_sample past) (is_tripped_at common settings past) (is_flowing_at past)

  -- of all the samples
  abbrev pub guard_takes : List Numbered → List GuardTake
  guard_takes past = at_each guard_take past
