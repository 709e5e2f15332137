-- The ending that the code's own value stands for.
use Rattle.std.specs.Prelude.{ℕ, Result, Ok, Err}
use Rattle.relay_tool.specs.Endings.{Ending, done, usage, refused, not_capture, cut, damaged, too_long, fault, no_memory, no_trip, no_line}
use Rattle.relay_tool.specs.declared.run.Stopped.{Stopped}
use Rattle.relay_tool.specs.declared.run.Stopped.TheVariants as stops
use Rattle.relay_tool.specs.declared.end.End.{End}
use Rattle.relay_tool.specs.declared.end.End.TheVariants.{Done, Usage, Refused, NotCapture, Cut, Damaged, TooLong, Fault, NoMemory, NoTrip, NoLine}

abbrev pub ending_of : End → Ending
ending_of Done = done
ending_of Usage = usage
ending_of (Refused number key) = refused number key.bytes
ending_of NotCapture = not_capture
ending_of (Cut records) = cut records
ending_of (Damaged records size) = damaged records size
ending_of (TooLong records) = too_long records
ending_of (Fault slot) = fault slot
ending_of NoMemory = no_memory
ending_of (NoTrip trips) = no_trip trips
ending_of NoLine = no_line

-- where a run stopped that found so many trips, fewer than asked for
abbrev pub lacking_end : Stopped → ℕ → Ending
lacking_end stops.Whole trips = no_trip trips
lacking_end (stops.Cut records) trips = cut records
lacking_end (stops.Damaged records size) trips = damaged records size
lacking_end (stops.TooLong records) trips = too_long records

-- of a command whose good end says this
abbrev pub ending_by : {X : Type 0} → (X → Ending) → Result X End → Ending
ending_by good (Ok x) = good x
ending_by good (Err end) = ending_of end
