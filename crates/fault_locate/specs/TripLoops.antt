-- What a line tells of a sample (line_relay's `changes`), read for a trip and the loop that raised it.
use Rattle.std.specs.Prelude.{ℕ, ◌-◌, Bool, true, false, if◌then◌else◌, List, [], ◌∷◌, Option, Some, None, slice_get}
use Rattle.std.specs.List.{list_any, filter_map}
use Rattle.relay_settings.specs.declared.types.Common.{Common}
use Rattle.relay_settings.specs.declared.types.ZoneSettings.{ZoneSettings}
use Rattle.relay_settings.specs.Settings.{PlainLine}
use Rattle.event_record.specs.declared.event.What.{What}
use Rattle.event_record.specs.declared.event.What.TheVariants.{Operate, Trip}
use Rattle.line_relay.specs.LineSamples.{Numbered}
use Rattle.line_relay.specs.Inside.{holds_of}
use Rattle.line_relay.specs.Facts.{facts_of}
use Rattle.line_relay.specs.Events.{changes}

abbrev pub is_trip : What → Bool
is_trip Trip = true
is_trip _ = false

-- the loop of an operation of a zone that has `trip`; an event names a zone by its number, from 1
abbrev pub tripping_loop : List ZoneSettings → What → Option ℕ
tripping_loop zones (Operate zone lp) = if holds_of (λ z. z.trip) zones (zone - 1) then Some lp else None
tripping_loop zones _ = None

abbrev pub tells_trip : List What → Bool
tells_trip whats = list_any is_trip whats

-- that of the first of them
abbrev pub first_loop : List ZoneSettings → List What → Option ℕ
first_loop zones whats = slice_get (filter_map (tripping_loop zones) whats) 0

module _ (common : Common) (settings : PlainLine) where
  -- what is told of the newest sample
  abbrev pub told_at : List Numbered → List What
  told_at [] = []
  told_at (s ∷ older) = changes (facts_of common settings older) (facts_of common settings (s ∷ older))

  -- a trip begins to stand there
  abbrev pub is_trip_at : List Numbered → Bool
  is_trip_at past = tells_trip (told_at past)

  abbrev pub loop_at : List Numbered → Option ℕ
  loop_at past = first_loop settings.zones (told_at past)
