-- Breaker failure (ANSI 50BF) and one reclosing (ANSI 79), over the whole list of a line's trips, the newest first. The rules
-- are this project's own. Waits are in samples.
use Rattle.std.specs.Prelude.{ℕ, ◌≤◌, ◌+◌, ◌==◌, Bool, false, ◌&&◌, ◌||◌, nat_le, nat_lt, if◌then◌else◌, List, [], ◌∷◌, ◌++◌, Option, Some, None, is_some}
use Rattle.std.specs.List.{list_any}
use Rattle.std.specs.Option.{option_and_then}
use Rattle.relay_settings.specs.Times.{samples}
use Rattle.breaker_guard.specs.declared.waits.GuardTimes.{GuardTimes}
use Rattle.breaker_guard.specs.declared.waits.Waits.{Waits}
use Rattle.breaker_guard.specs.declared.event.GuardWhat.{GuardWhat}
use Rattle.breaker_guard.specs.declared.event.GuardWhat.TheVariants.{Final, Fail, Reclose}
use Rattle.breaker_guard.specs.TripSpans.{TripSpan, first_where, reset_of}

abbrev pub times_of : ℕ → ℕ → ℕ → GuardTimes
times_of fail_ms dead_ms reclaim_ms = record { fail_ms = fail_ms; dead_ms = dead_ms; reclaim_ms = reclaim_ms }

-- a guard's times, in milliseconds
pub record AreTimes (times : GuardTimes) : Type 0 where
  pub fail_low : 1 ≤ times.fail_ms
  pub fail_high : times.fail_ms ≤ 10000
  pub dead_low : 1 ≤ times.dead_ms
  pub dead_high : times.dead_ms ≤ 60000
  pub reclaim_low : 1 ≤ times.reclaim_ms
  pub reclaim_high : times.reclaim_ms ≤ 600000

-- the times in samples, rounded up
abbrev pub waits_of : ℕ → GuardTimes → Waits
waits_of rate times = record { fail = samples rate times.fail_ms; dead = samples rate times.dead_ms; reclaim = samples rate times.reclaim_ms }

-- at least a sample each, as those of such times are
pub record AreWaits (waits : Waits) : Type 0 where
  pub fail : 1 ≤ waits.fail
  pub dead : 1 ≤ waits.dead

-- what is there, as a list
abbrev pub listed : {X : Type 0} → Option X → List X
listed None = []
listed (Some x) = x ∷ []

-- this number is there
abbrev pub is_number : ℕ → Option ℕ → Bool
is_number number None = false
is_number number (Some n) = n == number

-- A trip was reclosed whose reclaim time still runs at this number: it was given before, and not longer ago than that.
abbrev pub is_reclaiming : ℕ → ℕ → List ℕ → Bool
is_reclaiming reclaim number reclosings = list_any (λ e. nat_lt e number && nat_le number (e + reclaim)) reclosings

module _ (waits : Waits) where
  -- where the breaker has failed to open: at the first sample of the trip that is so far behind its rise while the trip
  -- stands and current flows
  abbrev pub fails_at : TripSpan → Option ℕ
  fails_at trip = first_where (λ t. t.trip && (t.flowing && nat_le (trip.rise + waits.fail) t.number)) trip.samples

  -- where the dead time is over: at the first sample so far behind the reset. There is none where another trip rises by then,
  -- since the samples from there on are that one's.
  abbrev pub dead_until : TripSpan → Option ℕ
  dead_until trip = option_and_then (λ reset. first_where (λ t. nat_le (reset + waits.dead) t.number) trip.samples) (reset_of trip)

  -- it is reclosed there, unless the breaker failed or the trip is final
  abbrev pub reclosed_unless : Bool → TripSpan → Option ℕ
  reclosed_unless is_final trip = if is_some (fails_at trip) || is_final then None else dead_until trip

  -- the numbers at which trips are reclosed; one that rises in the reclaim time of an older one's reclosing is final
  abbrev pub reclosings : List TripSpan → List ℕ
  reclosings [] = []
  reclosings (trip ∷ older) = listed (reclosed_unless (is_reclaiming waits.reclaim trip.rise (reclosings older)) trip) ++ reclosings older

  abbrev pub is_final : TripSpan → List TripSpan → Bool
  is_final trip older = is_reclaiming waits.reclaim trip.rise (reclosings older)

  abbrev pub recloses_at : TripSpan → List TripSpan → Option ℕ
  recloses_at trip older = reclosed_unless (is_final trip older) trip

  -- what is told of a trip at the sample with this number, where these are the older ones
  abbrev pub told_of : ℕ → TripSpan → List TripSpan → List GuardWhat
  told_of number trip older =
      (if is_final trip older && trip.rise == number then Final ∷ [] else [])
      ++ (if is_number number (fails_at trip) then Fail ∷ [] else [])
      ++ (if is_number number (recloses_at trip older) then Reclose ∷ [] else [])

  -- of all trips
  abbrev pub told_at : ℕ → List TripSpan → List GuardWhat
  told_at number [] = []
  told_at number (trip ∷ older) = told_of number trip older ++ told_at number older
