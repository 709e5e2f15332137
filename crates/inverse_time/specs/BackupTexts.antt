-- The text of an inverse-time event in the log: name, time and number of the sample, `backup`, the phase and what happened.
use Rattle.std.specs.Prelude.{ℕ, zero, suc, ◌<◌, ◌^◌, List, ◌++◌, codes}
use Rattle.event_record.specs.Line.{place_text}
use Rattle.inverse_time.specs.declared.event.BackupWhat.{BackupWhat}
use Rattle.inverse_time.specs.declared.event.BackupWhat.TheVariants.{Start, Drop, Operate}
use Rattle.inverse_time.specs.declared.event.BackupEvent.{BackupEvent}

abbrev pub phase_text : ℕ → List ℕ
phase_text zero = codes "A"
phase_text (suc zero) = codes "B"
phase_text (suc (suc n)) = codes "C"

abbrev pub what_text : BackupWhat → List ℕ
what_text Start = codes "start"
what_text Drop = codes "drop"
what_text Operate = codes "operate"

-- the line of an event of the line with this name
unfoldable pub backup_text : List ℕ → BackupEvent → List ℕ
backup_text name event =
    place_text name event.at ++ codes "backup " ++ phase_text event.phase ++ codes " " ++ what_text event.what ++ codes "\n"

-- an event that has a text: nanoseconds below a second, and one of three phases
pub record IsPrintableEvent (event : BackupEvent) : Type 0 where
  pub nanos : event.at.nanos < 10 ^ 9
  pub phase : event.phase < 3
