-- Who tells of a sample set: the line that owns it, by that line's own sample sets alone.
use Rattle.std.specs.Prelude.{List, Option}
use Rattle.relay_settings.specs.Settings.{PlainLine, PlainSettings}
use Rattle.sv_frame.specs.Asdu.{PlainAsdu}
use Rattle.line_bank.specs.Banks.{TellsOf, told}
use Rattle.inverse_time.specs.declared.curve.Dial.{Dial}
use Rattle.inverse_time.specs.declared.event.BackupEvent.{BackupEvent}
use Rattle.inverse_time.specs.BackupEvents.{backup_events}

-- what a line of these settings tells of the newest of its own sample sets
abbrev pub tells_by : PlainSettings → Dial → PlainLine → List PlainAsdu → List BackupEvent
tells_by settings dial line asdus = backup_events settings.common line dial asdus

-- what the lines tell of the newest of the sample sets heard: its owner's events, and nothing where no line owns it
abbrev pub backup_told : PlainSettings → Dial → List PlainAsdu → Option (TellsOf (List BackupEvent))
backup_told settings dial past = told (tells_by settings dial) settings.lines past
