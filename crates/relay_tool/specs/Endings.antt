-- The ways in which a run ends, each with its status and its note.
use Rattle.std.specs.Prelude.{ℕ, List, [], codes, ◌++◌}
use Rattle.std.specs.Fmt.{decimal}
use Rattle.room_io.specs.declared.room.Slot.{Slot}
use Rattle.room_io.specs.declared.room.Slot.TheVariants.{Settings, Capture, Goose, Log, Config, Data, Note, Answer}

pub data Ending : Type 0 where
  -- the input was used to its end and all was written
  done : Ending
  -- the words are no form
  usage : Ending
  -- the settings are refused, by this number and at this key
  refused : ℕ → List ℕ → Ending
  not_capture : Ending
  -- the capture ended within a record, behind so many whole ones
  cut : ℕ → Ending
  -- behind so many whole records one tells this captured length
  damaged : ℕ → ℕ → Ending
  too_long : ℕ → Ending
  -- a call of this slot failed
  fault : Slot → Ending
  no_memory : Ending
  -- the capture was used to its end, and the line has so many trips: fewer than asked for
  no_trip : ℕ → Ending
  -- no line of the settings has the name
  no_line : Ending

abbrev pub status_of : Ending → ℕ
status_of done = 0
status_of usage = 1
status_of (refused number key) = 2
status_of not_capture = 3
status_of (cut records) = 4
status_of (damaged records size) = 5
status_of (fault slot) = 6
status_of no_memory = 7
status_of (too_long records) = 8
status_of (no_trip trips) = 9
status_of no_line = 10

abbrev pub slot_text : Slot → List ℕ
slot_text Settings = codes "settings"
slot_text Capture = codes "capture"
slot_text Goose = codes "goose"
slot_text Log = codes "log"
slot_text Config = codes "config"
slot_text Data = codes "data"
slot_text Note = codes "note"
slot_text Answer = codes "answer"

abbrev pub note_of : Ending → List ℕ
note_of done = []
note_of usage = codes "usage: relay replay SETTINGS CAPTURE GOOSE LOG or check SETTINGS or drill SEED SECONDS or backup SETTINGS CAPTURE LOG CURVE PICKUP TMS or locate SETTINGS CAPTURE LOG or guard SETTINGS CAPTURE LOG FAIL_MS DEAD_MS RECLAIM_MS or record SETTINGS CAPTURE LINE K CONFIG DATA\n"
note_of (refused number key) = codes "settings refused " ++ decimal number ++ codes " " ++ key ++ codes "\n"
note_of not_capture = codes "not a capture\n"
note_of (cut records) = codes "capture cut after " ++ decimal records ++ codes " records\n"
note_of (damaged records size) = codes "capture damaged after " ++ decimal records ++ codes " records length " ++ decimal size ++ codes "\n"
note_of (fault slot) = codes "fault " ++ slot_text slot ++ codes "\n"
note_of no_memory = codes "no memory\n"
note_of (too_long records) = codes "capture too long after " ++ decimal records ++ codes " records\n"
note_of (no_trip trips) = codes "no such trip, " ++ decimal trips ++ codes " trips\n"
note_of no_line = codes "no such line\n"
