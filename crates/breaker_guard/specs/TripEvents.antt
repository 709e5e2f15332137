-- A burst's events, read for the trip: whether it stands behind them.
use Rattle.std.specs.Prelude.{Bool, true, false, not, ◌&&◌, ◌||◌, List}
use Rattle.std.specs.List.{list_any}
use Rattle.event_record.specs.declared.event.What.{What}
use Rattle.event_record.specs.declared.event.What.TheVariants.{Trip, Reset}
use Rattle.event_record.specs.declared.event.Event.{Event}
use Rattle.event_record.specs.declared.event.Event.TheVariants.{Malformed, Line}

abbrev pub is_trip : What → Bool
is_trip Trip = true
is_trip _ = false

abbrev pub is_reset : What → Bool
is_reset Reset = true
is_reset _ = false

abbrev pub tells : (What → Bool) → Event → Bool
tells test (Malformed frame reason) = false
tells test (Line at what) = test what

-- the trip stands where it begins to, and where it did and doesn't end
abbrev pub trip_after : Bool → List Event → Bool
trip_after was events = list_any (tells is_trip) events || (was && not (list_any (tells is_reset) events))
