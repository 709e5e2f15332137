-- The takes that a trip stands for, the newest first: it holds the number of the last operation, whether its trip has
-- ended, and for how many numbers in a row the line has been dead.
use Rattle.std.specs.Prelude.{ℕ, ◌≡◌, min, not, List, Some, find, option_map}
use Rattle.std.specs.List.{prefix_len}
use Rattle.sample_windows.specs.Numbered.{Rises, run_of}
use Rattle.trip_logic.specs.Seal.{has_ended}
use Rattle.trip_logic.specs.Takes.{TripTake, number_of, operates_now, dead_now}
use Rattle.trip_logic.specs.declared.Trip.{Trip}

-- the place of the newest take that operates
abbrev pub last_place : List TripTake → ℕ
last_place takes = prefix_len (λ t. not t.operated) takes

-- a trip with this least time and this run of dead samples, after these takes
pub record StandsFor (least open_run : ℕ) (takes : List TripTake) (trip : Trip) : Type 0 where
  pub same_min : trip.min ≡ least
  pub same_open_run : trip.open_run ≡ open_run
  pub rises : Rises number_of takes
  pub last : trip.last ≡ option_map number_of (find (λ t. t.operated) takes)
  pub ended : (number : ℕ) → trip.last ≡ Some number →
      trip.ended ≡ has_ended number_of operates_now dead_now least open_run (last_place takes) takes
  pub dead_run : trip.dead_run ≡ min (run_of number_of dead_now takes) open_run
