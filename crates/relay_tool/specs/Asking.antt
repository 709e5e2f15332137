-- What the code's words stand for.
use Rattle.std.specs.Prelude.{◌≡◌, ◌≤◌, true, length}
use Rattle.inverse_time.specs.InverseCurves.{IsDial, dial_of}
use Rattle.breaker_guard.specs.Guarding.{AreTimes, times_of}
use Rattle.relay_tool.specs.Words.{Names, StudyNames, Study as StudyAsked, Asked, replay, check, drill, study, recording, backup, locate, guard, RecordNames, are_short, are_short_study, are_short_record}
use Rattle.relay_tool.specs.declared.words.Files.{Files}
use Rattle.relay_tool.specs.declared.words.StudyFiles.{StudyFiles}
use Rattle.relay_tool.specs.declared.words.RecordWords.{RecordWords}
use Rattle.relay_tool.specs.declared.words.Study.{Study}
use Rattle.relay_tool.specs.declared.words.Study.TheVariants.{Backup, Locate, Guard}
use Rattle.relay_tool.specs.declared.words.Command.{Command}
use Rattle.relay_tool.specs.declared.words.Command.TheVariants as commands

abbrev pub names_of_files : Files → Names
names_of_files files = record { settings = files.settings.now; capture = files.capture.now; goose = files.goose.now; log = files.log.now }

abbrev pub names_of_study : StudyFiles → StudyNames
names_of_study files = record { settings = files.settings.now; capture = files.capture.now; log = files.log.now }

abbrev pub names_of_record : RecordWords → RecordNames
names_of_record words = record { settings = words.settings.now; capture = words.capture.now; line = words.line.now; trip = words.trip; config_file = words.config_file.now; data_file = words.data_file.now }

abbrev pub study_of : Study → StudyAsked
study_of (Backup curve pickup tms) = backup (dial_of curve pickup tms)
study_of Locate = locate
study_of (Guard fail dead reclaim) = guard (times_of fail dead reclaim)

abbrev pub asked_of : Command → Asked
asked_of (commands.Replay files) = replay (names_of_files files)
asked_of (commands.Check settings) = check settings.now
asked_of (commands.Drill seed seconds) = drill seed seconds
asked_of (commands.Study s files) = study (study_of s) (names_of_study files)
asked_of (commands.Record words) = recording (names_of_record words)

-- the numbers of a study are in their ranges
abbrev pub IsStudy : Study → Type 0
IsStudy (Backup curve pickup tms) = IsDial (dial_of curve pickup tms)
IsStudy Locate = Unit {0}
IsStudy (Guard fail dead reclaim) = AreTimes (times_of fail dead reclaim)

-- a trip is counted from 1 to 1000000, and the file words are short
abbrev pub IsRecord : RecordWords → Type 0
IsRecord words = (1 ≤ words.trip) × (words.trip ≤ 1000000) × (are_short_record (names_of_record words) ≡ true)

-- file words are short, a drill has 1 to 600 seconds, and the numbers of a study and of a record are in their ranges
abbrev pub IsInRange : Command → Type 0
IsInRange (commands.Replay files) = are_short (names_of_files files) ≡ true
IsInRange (commands.Check settings) = length settings.now ≤ 1024
IsInRange (commands.Drill seed seconds) = (1 ≤ seconds) × (seconds ≤ 600)
IsInRange (commands.Study s files) = IsStudy s × (are_short_study (names_of_study files) ≡ true)
IsInRange (commands.Record words) = IsRecord words
