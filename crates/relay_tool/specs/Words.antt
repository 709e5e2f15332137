-- What the words of the command line ask for.
use Rattle.std.specs.Prelude.{ℕ, ◌-◌, ◌^◌, Bool, ◌&&◌, nat_le, if◌then◌else◌, List, [], ◌∷◌, length, Option, Some, None, codes}
use Rattle.std.specs.Str.{bytes_eq}
use Rattle.std.specs.Str.Parse.{digits_value}
use Rattle.std.specs.Fmt.{decimal}
use Rattle.room_io.specs.declared.room.Slot.{Slot}
use Rattle.room_io.specs.declared.room.Slot.TheVariants.{Settings, Capture, Goose, Log, Config, Data}
use Rattle.inverse_time.specs.declared.curve.Curve.{Curve}
use Rattle.inverse_time.specs.declared.curve.Curve.TheVariants.{Very, Extremely}
use Rattle.inverse_time.specs.declared.curve.Dial.{Dial}
use Rattle.inverse_time.specs.InverseCurves.{dial_of}
use Rattle.breaker_guard.specs.declared.waits.GuardTimes.{GuardTimes}
use Rattle.breaker_guard.specs.Guarding.{times_of}

-- the files of `replay`
pub record Names : Type 0 where
  pub settings : List ℕ
  pub capture : List ℕ
  pub goose : List ℕ
  pub log : List ℕ

-- the files of a study
pub record StudyNames : Type 0 where
  pub settings : List ℕ
  pub capture : List ℕ
  pub log : List ℕ

-- what `record` asks for: its files, a line's name, and which of that line's trips
pub record RecordNames : Type 0 where
  pub settings : List ℕ
  pub capture : List ℕ
  pub line : List ℕ
  -- the first trip is 1
  pub trip : ℕ
  pub config_file : List ℕ
  pub data_file : List ℕ

-- A study: what runs over the lines' sample sets in place of the relay, and tells in the log alone.
pub data Study : Type 0 where
  -- inverse-time overcurrent, on this curve with this pickup and time multiplier setting
  backup : Dial → Study
  -- the distance to the fault of each trip
  locate : Study
  -- a breaker that fails to open, and one reclosing, by these times
  guard : GuardTimes → Study

pub data Asked : Type 0 where
  replay : Names → Asked
  check : List ℕ → Asked
  -- by this seed, of so many seconds
  drill : ℕ → ℕ → Asked
  study : Study → StudyNames → Asked
  -- the record of a line's trip, as a pair of files
  recording : RecordNames → Asked

-- the word that names a slot's file, where the command has one
abbrev pub word : Asked → Slot → Option (List ℕ)
word (replay names) Settings = Some names.settings
word (replay names) Capture = Some names.capture
word (replay names) Goose = Some names.goose
word (replay names) Log = Some names.log
word (check settings) Settings = Some settings
word (study s names) Settings = Some names.settings
word (study s names) Capture = Some names.capture
word (study s names) Log = Some names.log
word (recording names) Settings = Some names.settings
word (recording names) Capture = Some names.capture
word (recording names) Config = Some names.config_file
word (recording names) Data = Some names.data_file
word asked slot = None

abbrev pub word_of : Option Asked → Slot → Option (List ℕ)
word_of None slot = None
word_of (Some asked) slot = word asked slot

-- a file word has at most 1024 bytes
abbrev pub is_short : List ℕ → Bool
is_short name = nat_le (length name) 1024

abbrev pub are_short : Names → Bool
are_short names = is_short names.settings && (is_short names.capture && (is_short names.goose && is_short names.log))

abbrev pub names_of : List ℕ → List ℕ → List ℕ → List ℕ → Names
names_of settings capture goose log = record { settings = settings; capture = capture; goose = goose; log = log }

abbrev pub replayed : Names → Option Asked
replayed names = if are_short names then Some (replay names) else None

abbrev pub are_short_study : StudyNames → Bool
are_short_study names = is_short names.settings && (is_short names.capture && is_short names.log)

abbrev pub study_names : List ℕ → List ℕ → List ℕ → StudyNames
study_names settings capture log = record { settings = settings; capture = capture; log = log }

abbrev pub are_short_record : RecordNames → Bool
are_short_record names = is_short names.settings && (is_short names.capture && (is_short names.config_file && is_short names.data_file))

abbrev pub record_names : List ℕ → List ℕ → List ℕ → ℕ → List ℕ → List ℕ → RecordNames
record_names settings capture line trip config_file data_file =
    record { settings = settings; capture = capture; line = line; trip = trip; config_file = config_file; data_file = data_file }

-- the number that a word spells: in decimal digits, without a sign or a needless leading zero
abbrev pub spelled : List ℕ → Option ℕ
spelled word = if bytes_eq (decimal (digits_value 10 word)) word then Some (digits_value 10 word) else None

-- the number, where it is from low to high
abbrev pub within : ℕ → ℕ → Option ℕ → Option ℕ
within low high None = None
within low high (Some n) = if nat_le low n && nat_le n high then Some n else None

abbrev pub drill_of : Option ℕ → Option ℕ → Option Asked
drill_of (Some seed) (Some seconds) = Some (drill seed seconds)
drill_of seed seconds = None

-- the curve that a word names
abbrev pub curve_named : List ℕ → Option Curve
curve_named word = if bytes_eq word (codes "very") then Some Very else if bytes_eq word (codes "extremely") then Some Extremely else None

abbrev pub backup_of : Option Curve → Option ℕ → Option ℕ → Option Study
backup_of (Some curve) (Some pickup) (Some tms) = Some (backup (dial_of curve pickup tms))
backup_of curve pickup tms = None

abbrev pub guard_of : Option ℕ → Option ℕ → Option ℕ → Option Study
guard_of (Some fail) (Some dead) (Some reclaim) = Some (guard (times_of fail dead reclaim))
guard_of fail dead reclaim = None

abbrev pub studied : StudyNames → Option Study → Option Asked
studied names None = None
studied names (Some s) = if are_short_study names then Some (study s names) else None

abbrev pub recorded : RecordNames → Option Asked
recorded names = if are_short_record names then Some (recording names) else None

abbrev pub recording_of : List ℕ → List ℕ → List ℕ → Option ℕ → List ℕ → List ℕ → Option Asked
recording_of settings capture line None config_file data_file = None
recording_of settings capture line (Some trip) config_file data_file = recorded (record_names settings capture line trip config_file data_file)

-- what a command asks for whose settings and capture come before four more words
abbrev pub form_of_seven : List ℕ → List ℕ → List ℕ → List ℕ → List ℕ → List ℕ → List ℕ → Option Asked
form_of_seven command settings capture third x y z =
    if bytes_eq command (codes "backup")
    then studied (study_names settings capture third) (backup_of (curve_named x) (within 1 100000000 (spelled y)) (within 25 1500 (spelled z)))
    else if bytes_eq command (codes "guard")
    then studied (study_names settings capture third) (guard_of (within 1 10000 (spelled x)) (within 1 60000 (spelled y)) (within 1 600000 (spelled z)))
    else if bytes_eq command (codes "record") then recording_of settings capture third (within 1 1000000 (spelled x)) y z else None

-- what the words ask for, where they are a form
abbrev pub form : List (List ℕ) → Option Asked
form (command ∷ settings ∷ []) = if bytes_eq command (codes "check") && is_short settings then Some (check settings) else None
form (command ∷ seed ∷ seconds ∷ []) =
    if bytes_eq command (codes "drill") then drill_of (within 0 (2 ^ 64 - 1) (spelled seed)) (within 1 600 (spelled seconds)) else None
form (command ∷ settings ∷ capture ∷ log ∷ []) = if bytes_eq command (codes "locate") then studied (study_names settings capture log) (Some locate) else None
form (command ∷ settings ∷ capture ∷ goose ∷ log ∷ []) = if bytes_eq command (codes "replay") then replayed (names_of settings capture goose log) else None
form (command ∷ settings ∷ capture ∷ third ∷ x ∷ y ∷ z ∷ []) = form_of_seven command settings capture third x y z
form words = None
