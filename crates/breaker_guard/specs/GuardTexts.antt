-- The text of a breaker guard's event in the log: name, time and number of the sample, `guard` and what happened.
use Rattle.std.specs.Prelude.{ℕ, ◌<◌, ◌^◌, List, ◌++◌, codes}
use Rattle.event_record.specs.Line.{place_text}
use Rattle.breaker_guard.specs.declared.event.GuardWhat.{GuardWhat}
use Rattle.breaker_guard.specs.declared.event.GuardWhat.TheVariants.{Final, Fail, Reclose}
use Rattle.breaker_guard.specs.declared.event.GuardEvent.{GuardEvent}

abbrev pub what_text : GuardWhat → List ℕ
what_text Final = codes "final"
what_text Fail = codes "fail"
what_text Reclose = codes "reclose"

-- the line of an event of the line with this name
unfoldable pub guard_text : List ℕ → GuardEvent → List ℕ
guard_text name event = place_text name event.at ++ codes "guard " ++ what_text event.what ++ codes "\n"

-- an event that has a text: nanoseconds below a second
pub record IsPrintableGuard (event : GuardEvent) : Type 0 where
  pub nanos : event.at.nanos < 10 ^ 9
