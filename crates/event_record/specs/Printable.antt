-- Events that have a text: zones from 1 to 5, loops from 0 to 5, nanoseconds below a second.
use Rattle.std.specs.Prelude.{ℕ, ◌<◌, ◌≤◌, ◌^◌, Option, Some, None}
use Rattle.event_record.specs.declared.time.At.{At}
use Rattle.event_record.specs.declared.event.What.{What}
use Rattle.event_record.specs.declared.event.What.TheVariants.{Entered, Left, Operate}
use Rattle.event_record.specs.declared.event.Event.{Event}
use Rattle.event_record.specs.declared.event.Event.TheVariants.{Malformed, Line}

abbrev pub IsZoneLoop : ℕ → ℕ → Type 0
IsZoneLoop zone lp = (1 ≤ zone) × (zone ≤ 5) × (lp ≤ 5)

abbrev pub IsPrintableWhat : What → Type 0
IsPrintableWhat (Entered zone lp) = IsZoneLoop zone lp
IsPrintableWhat (Left zone lp) = IsZoneLoop zone lp
IsPrintableWhat (Operate zone lp) = IsZoneLoop zone lp
IsPrintableWhat _ = Unit {0}

abbrev pub IsPrintableAt : Option At → Type 0
IsPrintableAt (Some at) = at.nanos < 10 ^ 9
IsPrintableAt None = Unit {0}

abbrev pub IsPrintable : Event → Type 0
IsPrintable (Malformed frame reason) = Unit {0}
IsPrintable (Line at what) = IsPrintableAt at × IsPrintableWhat what
