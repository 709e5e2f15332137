-- What is written of the records of a capture: the scalar definition. Each sample set that a line owns is told by that line's
-- burst at the end of the line's own sample sets, and each malformed frame by one line of its own.
use Rattle.std.specs.Prelude.{ℕ, ◌+◌, List, [], ◌∷◌, ◌++◌, length, take, map, reverse, Option, Some, None}
use Rattle.sample_windows.specs.Windows.{in_order}
use Rattle.sv_frame.specs.Asdu.{PlainAsdu}
use Rattle.sv_frame.specs.Frame.{Sv, other, bad, pdu, sv}
use Rattle.sv_frame.specs.declared.Reason.{Reason}
use Rattle.relay_settings.specs.Settings.{PlainLine, PlainSettings}
use Rattle.relay_settings.specs.declared.types.Common.{Common}
use Rattle.event_record.specs.declared.event.Event.{Event}
use Rattle.event_record.specs.declared.event.Event.TheVariants.{Malformed}
use Rattle.event_record.specs.Line.{line_text}
use Rattle.event_record.specs.Time.{time_of}
use Rattle.event_record.specs.declared.time.At.{At}
use Rattle.goose_publish.specs.declared.points.Send.{Send}
use Rattle.goose_publish.specs.GooseFrame.{frame_bytes}
use Rattle.capture_feed.specs.Written.{record_bytes}
use Rattle.line_relay.specs.Bursts.{PlainBurst, burst}
use Rattle.station.specs.Told.{Told, told}
use Rattle.line_bank.specs.Banks.{TellsOf}
use Rattle.inverse_time.specs.declared.event.BackupEvent.{BackupEvent}
use Rattle.inverse_time.specs.BackupTexts.{backup_text}
use Rattle.inverse_time.specs.BackupLines.{backup_told}
use Rattle.fault_locate.specs.declared.located.Located.{Located}
use Rattle.fault_locate.specs.LocateTexts.{located_text}
use Rattle.fault_locate.specs.LocateLines.{located_told}
use Rattle.breaker_guard.specs.declared.event.GuardEvent.{GuardEvent}
use Rattle.breaker_guard.specs.GuardTexts.{guard_text}
use Rattle.breaker_guard.specs.GuardLines.{guard_told}
use Rattle.comtrade_write.specs.Recordings.{config_of, data_of}
use Rattle.relay_tool.specs.Words.{Study, backup, locate, guard}
use Rattle.room_io.specs.declared.room.Slot.{Slot}
use Rattle.room_io.specs.declared.room.Slot.TheVariants.{Goose, Log, Config, Data}

-- one write of the output, and the name of the line whose part it is
pub record Item : Type 0 where
  pub slot : Slot
  pub line : Option (List ℕ)
  pub bytes : List ℕ

-- ---- sample sets

-- what is written of the newest of some sample sets, which stand the newest first
abbrev pub Tells : Type 0
Tells = List PlainAsdu → List Item

-- an event of a line
abbrev pub event_item : List ℕ → Event → Item
event_item name event = record { slot = Log; line = Some name; bytes = line_text name event }

-- the record of a frame, at the moment of the sample at which it is sent
abbrev pub frame_record : At → List ℕ → List ℕ
frame_record at frame = record_bytes at.seconds at.nanos frame

abbrev pub send_items : Common → PlainLine → Option Send → List Item
send_items common line None = []
send_items common line (Some send) =
    record { slot = Goose; line = Some line.name; bytes = frame_record (time_of common send.number) (frame_bytes common line.goose send) } ∷ []

-- what a line writes of a burst: a line of the log of each event, then the frame
abbrev pub items_of : Common → PlainLine → PlainBurst → List Item
items_of common line burst = map (event_item line.name) burst.events ++ send_items common line burst.send

-- what a line writes of the newest of its own sample sets, and of all of them, the oldest first
abbrev pub burst_items : Common → PlainLine → Tells
burst_items common line asdus = items_of common line (burst common line asdus)

abbrev pub solo : Common → PlainLine → List PlainAsdu → List Item
solo common line asdus = in_order (burst_items common line) [] asdus

abbrev pub told_items : Common → Option Told → List Item
told_items common None = []
told_items common (Some told) = items_of common told.line told.told

-- what the lines of a replay write of a sample set: the burst of the line that owns it
abbrev pub heard_items : PlainSettings → Tells
heard_items settings past = told_items settings.common (told settings past)

-- ---- studies

-- an inverse-time event of a line
abbrev pub backup_item : List ℕ → BackupEvent → Item
backup_item name event = record { slot = Log; line = Some name; bytes = backup_text name event }

abbrev pub backup_items : List ℕ → List BackupEvent → List Item
backup_items name events = map (backup_item name) events

-- a located fault of a line
abbrev pub located_item : List ℕ → Located → Item
located_item name located = record { slot = Log; line = Some name; bytes = located_text name located }

abbrev pub located_items : List ℕ → Option Located → List Item
located_items name None = []
located_items name (Some located) = located_item name located ∷ []

-- an event of a line's breaker guard
abbrev pub guard_item : List ℕ → GuardEvent → Item
guard_item name event = record { slot = Log; line = Some name; bytes = guard_text name event }

abbrev pub guard_items : List ℕ → List GuardEvent → List Item
guard_items name events = map (guard_item name) events

-- what a line tells, where one owns the sample set, in lines that begin with its name
abbrev pub owner_items : {Said : Type 0} → (List ℕ → Said → List Item) → Option (TellsOf Said) → List Item
owner_items items None = []
owner_items items (Some told) = items told.line.name told.told

-- what a study writes of the newest of some sample sets: what the line that owns it tells
abbrev pub study_items : Study → PlainSettings → Tells
study_items (backup dial) settings past = owner_items backup_items (backup_told settings dial past)
study_items locate settings past = owner_items located_items (located_told settings past)
study_items (guard times) settings past = owner_items guard_items (guard_told settings times past)

-- ---- the record of a trip

-- a line of the record's configuration
abbrev pub config_item : List ℕ → List ℕ → Item
config_item name text = record { slot = Config; line = Some name; bytes = text }

-- a line of its data
abbrev pub data_item : List ℕ → List ℕ → Item
data_item name text = record { slot = Data; line = Some name; bytes = text }

-- what is written of the record of a line's k-th trip after these sample sets, the newest first: the lines of its configuration,
-- and then those of its data
abbrev pub pair_items : Common → PlainLine → ℕ → List PlainAsdu → List Item
pair_items common line k past = map (config_item line.name) (config_of common line k past) ++ map (data_item line.name) (data_of common line k past)

-- ---- records

abbrev pub malformed_item : ℕ → Reason → Item
malformed_item number reason = record { slot = Log; line = None; bytes = line_text [] (Malformed number reason) }

-- a record is read as a frame of which at most 2048 bytes are kept
abbrev pub reading : List ℕ → Sv
reading body = sv (take 2048 body) (length body)

abbrev pub sets_of : Sv → List PlainAsdu
sets_of other = []
sets_of (bad reason) = []
sets_of (pdu asdus) = asdus

-- what is written of the record of this number, after the sample sets of the past
abbrev pub frame_items : Tells → ℕ → List PlainAsdu → Sv → List Item
frame_items tells number past other = []
frame_items tells number past (bad reason) = malformed_item number reason ∷ []
frame_items tells number past (pdu asdus) = in_order tells past asdus

-- the sample sets of these records behind those of the past, the newest first
unfoldable pub heard : List PlainAsdu → List (List ℕ) → List PlainAsdu
heard past [] = past
heard past (body ∷ bodies) = heard (reverse (sets_of (reading body)) ++ past) bodies

-- what is written of records, the first of this number
unfoldable pub items_from : Tells → ℕ → List PlainAsdu → List (List ℕ) → List Item
items_from tells number past [] = []
items_from tells number past (body ∷ bodies) =
    frame_items tells number past (reading body) ++ items_from tells (number + 1) (reverse (sets_of (reading body)) ++ past) bodies

-- what is written of the records of a capture, which are numbered from 1
abbrev pub out : Tells → List (List ℕ) → List Item
out tells bodies = items_from tells 1 [] bodies
