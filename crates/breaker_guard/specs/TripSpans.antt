-- The trips of a line, the newest first, each with its own samples: those from the one at which it rises up to the next at
-- which a trip rises.
use Rattle.std.specs.Prelude.{ℕ, Bool, not, ◌&&◌, if◌then◌else◌, List, [], ◌∷◌, Option, Some, None}
use Rattle.std.specs.Option.{option_or}
use Rattle.breaker_guard.specs.GuardTakes.{GuardTake, trip_now}

pub record TripSpan : Type 0 where
  -- the number at which it rises
  pub rise : ℕ
  -- its samples, the newest first
  pub samples : List GuardTake

abbrev pub begun : GuardTake → TripSpan
begun t = record { rise = t.number; samples = t ∷ [] }

-- a sample more of a trip
abbrev pub longer : GuardTake → TripSpan → TripSpan
longer t trip = record { rise = trip.rise; samples = t ∷ trip.samples }

-- a sample more of the newest trip; before the first trip it is none's
abbrev pub with_sample : GuardTake → List TripSpan → List TripSpan
with_sample t [] = []
with_sample t (trip ∷ older) = longer t trip ∷ older

-- a trip rises at the newest sample: it stands there and didn't before
abbrev pub rises_at : GuardTake → List GuardTake → Bool
rises_at t older = t.trip && not (trip_now older)

abbrev pub trips_of : List GuardTake → List TripSpan
trips_of [] = []
trips_of (t ∷ older) = if rises_at t older then begun t ∷ trips_of older else with_sample t (trips_of older)

-- the number of the first of these samples that passes the test
abbrev pub first_where : (GuardTake → Bool) → List GuardTake → Option ℕ
first_where test [] = None
first_where test (t ∷ older) = option_or (first_where test older) (if test t then Some t.number else None)

-- the number at which a trip resets: the first of its samples at which it no longer stands
abbrev pub reset_of : TripSpan → Option ℕ
reset_of trip = first_where (λ t. not t.trip) trip.samples
