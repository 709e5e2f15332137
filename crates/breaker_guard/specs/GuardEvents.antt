-- What is told of a line's sample set: what its trips tell at the number of its sample.
use Rattle.std.specs.Prelude.{ℕ, List, [], ◌∷◌, map, Option, Some, None}
use Rattle.relay_settings.specs.declared.types.Common.{Common}
use Rattle.relay_settings.specs.Settings.{PlainLine}
use Rattle.sv_frame.specs.Asdu.{PlainAsdu}
use Rattle.event_record.specs.declared.time.At.{At}
use Rattle.event_record.specs.Time.{time_of}
use Rattle.line_relay.specs.LineSamples.{Numbered}
use Rattle.line_relay.specs.Outcomes.{number_taken, outcome_of, taken_samples}
use Rattle.breaker_guard.specs.declared.waits.GuardTimes.{GuardTimes}
use Rattle.breaker_guard.specs.declared.event.GuardWhat.{GuardWhat}
use Rattle.breaker_guard.specs.declared.event.GuardEvent.{GuardEvent}
use Rattle.breaker_guard.specs.GuardTakes.{guard_takes}
use Rattle.breaker_guard.specs.TripSpans.{trips_of}
use Rattle.breaker_guard.specs.Guarding.{waits_of, told_at}

-- each as an event at this moment
abbrev pub events_at : At → List GuardWhat → List GuardEvent
events_at at whats = map (λ what. record { at = at; what = what }) whats

module _ (common : Common) (settings : PlainLine) (times : GuardTimes) where
  -- a sample set that isn't taken tells nothing
  abbrev pub events_by : Option ℕ → List Numbered → List GuardEvent
  events_by None past = []
  events_by (Some number) past =
      events_at (time_of common number) (told_at (waits_of common.rate times) number (trips_of (guard_takes common settings past)))

  -- what the newest of a line's own sample sets tells
  abbrev pub guard_events : List PlainAsdu → List GuardEvent
  guard_events [] = []
  guard_events (a ∷ older) = events_by (number_taken (outcome_of common settings a older)) (taken_samples common settings (a ∷ older))
