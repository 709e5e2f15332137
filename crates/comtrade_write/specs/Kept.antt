-- What the code asks of numbers and of events, step by step. No definition of a record speaks of these.
use Rattle.std.specs.Prelude.{ℕ, ◌+◌, ◌*◌, Bool, true, false, nat_le, if◌then◌else◌, List, [], ◌∷◌, fold, Option, Some, None}
use Rattle.event_record.specs.declared.event.What.{What}
use Rattle.event_record.specs.declared.event.What.TheVariants.{Trip, Reset}
use Rattle.event_record.specs.declared.event.Event.{Event}
use Rattle.event_record.specs.declared.event.Event.TheVariants.{Malformed, Line}
use Rattle.comtrade_write.specs.declared.covered.Recorded.{Recorded}

-- from the first sample on whose number isn't below low
abbrev pub from_number : ℕ → List Recorded → List Recorded
from_number low [] = []
from_number low (r ∷ rest) = if nat_le low r.number then r ∷ rest else from_number low rest

-- until the trip the samples before that are forgotten
abbrev pub forgotten : Option ℕ → ℕ → List Recorded → List Recorded
forgotten None low rs = from_number low rs
forgotten (Some trip) low rs = rs

-- the number of the trip: as it was known before, or else this one, where the trip is now
abbrev pub trip_with : Option ℕ → Bool → ℕ → Option ℕ
trip_with None now number = if now then Some number else None
trip_with (Some trip) now number = Some trip

-- until the trip each sample is kept, and then those of four cycles
abbrev pub is_within : Option ℕ → ℕ → ℕ → Bool
is_within None cycle number = true
is_within (Some began) cycle number = nat_le number (began + 4 * cycle)

-- whether the trip stands after what happened
abbrev pub trip_of : Bool → What → Bool
trip_of stands Trip = true
trip_of stands Reset = false
trip_of stands _ = stands

abbrev pub trip_by : Bool → Event → Bool
trip_by stands (Malformed frame reason) = stands
trip_by stands (Line at what) = trip_of stands what

abbrev pub trip_after : Bool → List Event → Bool
trip_after before events = fold trip_by before events
