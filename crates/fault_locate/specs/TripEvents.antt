-- A burst's events, read for a trip and the loop that raised it.
use Rattle.std.specs.Prelude.{ℕ, Bool, false, List, Option, None, slice_get}
use Rattle.std.specs.List.{list_any, filter_map}
use Rattle.relay_settings.specs.declared.types.ZoneSettings.{ZoneSettings}
use Rattle.event_record.specs.declared.event.Event.{Event}
use Rattle.event_record.specs.declared.event.Event.TheVariants.{Malformed, Line}
use Rattle.fault_locate.specs.TripLoops.{is_trip, tripping_loop}

abbrev pub is_trip_event : Event → Bool
is_trip_event (Malformed frame reason) = false
is_trip_event (Line at what) = is_trip what

abbrev pub loop_of_event : List ZoneSettings → Event → Option ℕ
loop_of_event zones (Malformed frame reason) = None
loop_of_event zones (Line at what) = tripping_loop zones what

abbrev pub has_trip : List Event → Bool
has_trip events = list_any is_trip_event events

abbrev pub first_loop_of : List ZoneSettings → List Event → Option ℕ
first_loop_of zones events = slice_get (filter_map (loop_of_event zones) events) 0
