-- Who tells of a sample set: the line that owns it, by that line's own sample sets alone.
use Rattle.std.specs.Prelude.{List, Option}
use Rattle.relay_settings.specs.Settings.{PlainLine, PlainSettings}
use Rattle.sv_frame.specs.Asdu.{PlainAsdu}
use Rattle.line_bank.specs.Banks.{TellsOf, told}
use Rattle.breaker_guard.specs.declared.waits.GuardTimes.{GuardTimes}
use Rattle.breaker_guard.specs.declared.event.GuardEvent.{GuardEvent}
use Rattle.breaker_guard.specs.GuardEvents.{guard_events}

-- what a line of these settings tells of the newest of its own sample sets
abbrev pub tells_by : PlainSettings → GuardTimes → PlainLine → List PlainAsdu → List GuardEvent
tells_by settings times line asdus = guard_events settings.common line times asdus

-- what the lines tell of the newest of the sample sets heard: its owner's events, and nothing where no line owns it
abbrev pub guard_told : PlainSettings → GuardTimes → List PlainAsdu → Option (TellsOf (List GuardEvent))
guard_told settings times past = told (tells_by settings times) settings.lines past
