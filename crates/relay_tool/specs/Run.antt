-- What a run without faults and with enough memory does.
use Rattle.std.specs.Prelude.{ℕ, nat_le, find, if◌then◌else◌, ◌+◌, ◌^◌, List, [], ◌∷◌, ◌++◌, length, Option, None, Some, unwrap_or, codes, Ok, Err}
use Rattle.std.specs.Fmt.{decimal}
use Rattle.room_io.specs.Room.{content}
use Rattle.room_io.specs.declared.room.Slot.TheVariants.{Goose}
use Rattle.capture_feed.specs.Records.{Records, Stop, Whole, Damaged, Cut, TooLong}
use Rattle.capture_feed.specs.Captures.{records}
use Rattle.capture_feed.specs.Written.{header_bytes}
use Rattle.relay_settings.specs.Settings.{PlainLine, PlainSettings}
use Rattle.settings_read.specs.Walk.{Answer, Refusal}
use Rattle.settings_read.specs.Accepted.{accepted}
use Rattle.std.specs.Str.{bytes_eq}
use Rattle.comtrade_write.specs.Recordings.{trips_of}
use Rattle.relay_tool.specs.Endings.{Ending, done, usage, refused, not_capture, cut, damaged, too_long, no_trip, no_line}
use Rattle.relay_tool.specs.Words.{Names, StudyNames, RecordNames, Study, Asked, replay, check, drill, study, recording}
use Rattle.relay_tool.specs.Tallies.{drill_summary}
use Rattle.relay_tool.specs.Output.{Item, Tells, heard_items, study_items, pair_items, heard, out}

pub record Run : Type 0 where
  pub ending : Ending
  -- what is written to standard output
  pub answer : List ℕ
  -- what is written to the output files, in this order
  pub writes : List Item

-- a run that writes nothing
abbrev pub ended : Ending → Run
ended ending = record { ending = ending; answer = []; writes = [] }

abbrev pub refused_run : Refusal → Run
refused_run refusal = ended (refused refusal.number refusal.key)

-- how a run ends where the capture stops behind so many records
abbrev pub ending_at : Stop → ℕ → Ending
ending_at Whole records = done
ending_at Cut records = cut records
ending_at (Damaged size) records = damaged records size
ending_at TooLong records = too_long records

-- the header of the GOOSE capture
abbrev pub header_item : Item
header_item = record { slot = Goose; line = None; bytes = header_bytes }

-- A command over a capture: its inputs, what it writes first, and what it writes of the newest of some sample sets.
pub record Job : Type 0 where
  pub settings : List ℕ
  pub capture : List ℕ
  pub head : List Item
  pub tells : PlainSettings → Tells

abbrev pub replay_job : Names → Job
replay_job names = record { settings = names.settings; capture = names.capture; head = header_item ∷ []; tells = heard_items }

-- a study writes nothing before the records
abbrev pub study_job : Study → StudyNames → Job
study_job s names = record { settings = names.settings; capture = names.capture; head = []; tells = study_items s }

-- all that is written of a capture with these records
abbrev pub all_writes : Job → PlainSettings → List (List ℕ) → List Item
all_writes job settings bodies = job.head ++ out (job.tells settings) bodies

-- a settings file is read to its end, or to one byte beyond its limit
abbrev pub most_settings : ℕ
most_settings = 1048577

-- at most 2 ^ 40 bytes of a capture are read
abbrev pub most_capture : ℕ
most_capture = 2 ^ 40

abbrev pub records_run : Job → PlainSettings → Option Records → Run
records_run job settings None = ended not_capture
records_run job settings (Some found) = record {
  ending = ending_at found.stop (length found.bodies);
  answer = [];
  writes = all_writes job settings found.bodies;
}

abbrev pub job_by : Job → Answer PlainSettings → List ℕ → Run
job_by job (Ok settings) capture = records_run job settings (records capture most_capture)
job_by job (Err refusal) capture = refused_run refusal

abbrev pub zones_in : List PlainLine → ℕ
zones_in [] = 0
zones_in (line ∷ lines) = length line.zones + zones_in lines

abbrev pub check_text : PlainSettings → List ℕ
check_text settings = codes "ok " ++ decimal (length settings.lines) ++ codes " lines " ++ decimal (zones_in settings.lines) ++ codes " zones\n"

abbrev pub check_by : Answer PlainSettings → Run
check_by (Ok settings) = record { ending = done; answer = check_text settings; writes = [] }
check_by (Err refusal) = refused_run refusal

-- an input whose name has no content counts as empty
abbrev pub content_of : List (List ℕ × List ℕ) → List ℕ → List ℕ
content_of contents name = unwrap_or (content contents name) []

abbrev pub job_run : Job → List (List ℕ × List ℕ) → Run
job_run job contents = job_by job (accepted (content_of contents job.settings)) (content_of contents job.capture)

-- ---- the record of a trip

-- the line of this name
abbrev pub line_named : List ℕ → List PlainLine → Option PlainLine
line_named name lines = find (λ line. bytes_eq line.name name) lines

-- how a run ends where the line has so many trips, fewer than asked for: the trip is missed only at a whole capture
abbrev pub lacking_at : Stop → ℕ → ℕ → Ending
lacking_at Whole records trips = no_trip trips
lacking_at Cut records trips = cut records
lacking_at (Damaged size) records trips = damaged records size
lacking_at TooLong records trips = too_long records

-- over these records: the pair where the line has k trips or more, and nothing otherwise
abbrev pub pair_run : PlainSettings → PlainLine → ℕ → Records → Run
pair_run settings line k found =
    if nat_le k (trips_of settings.common line (heard [] found.bodies))
    then record {
      ending = ending_at found.stop (length found.bodies);
      answer = [];
      writes = pair_items settings.common line k (heard [] found.bodies);
    }
    else ended (lacking_at found.stop (length found.bodies) (trips_of settings.common line (heard [] found.bodies)))

abbrev pub line_run : PlainSettings → ℕ → PlainLine → Option Records → Run
line_run settings k line None = ended not_capture
line_run settings k line (Some found) = pair_run settings line k found

-- the name is looked up before the capture is opened
abbrev pub named_run : PlainSettings → ℕ → Option PlainLine → List ℕ → Run
named_run settings k None capture = ended no_line
named_run settings k (Some line) capture = line_run settings k line (records capture most_capture)

abbrev pub record_by : RecordNames → Answer PlainSettings → List ℕ → Run
record_by names (Ok settings) capture = named_run settings names.trip (line_named names.line settings.lines) capture
record_by names (Err refusal) capture = refused_run refusal

abbrev pub run_of : Option Asked → List (List ℕ × List ℕ) → Run
run_of None contents = ended usage
run_of (Some (check settings)) contents = check_by (accepted (content_of contents settings))
run_of (Some (replay names)) contents = job_run (replay_job names) contents
run_of (Some (study s names)) contents = job_run (study_job s names) contents
run_of (Some (recording names)) contents = record_by names (accepted (content_of contents names.settings)) (content_of contents names.capture)
run_of (Some (drill seed seconds)) contents = record { ending = done; answer = drill_summary seed seconds; writes = [] }
