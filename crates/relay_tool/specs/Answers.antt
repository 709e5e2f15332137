-- What a room is after a run of the relay: statuses, notes, names and contents, what stands after a fault, and completeness.
use Rattle.std.specs.Prelude.{◌≡◌, ◌≢◌, ◌⊎◌, ◌↔◌, ℕ, ◌≤◌, ◌<◌, Bool, ◌&&◌, ◌||◌, IsTrue, IsSome, is_some, List, [], ◌∷◌, ◌++◌, length, take, drop, Option, None, Some, Ok, true, ◌==◌, false}
use Rattle.std.specs.List.{list_any}
use Rattle.room_io.specs.Room.{RoomState, at, Rose, IsFile, IsOutput}
use Rattle.room_io.specs.declared.room.Slot.{Slot}
use Rattle.room_io.specs.declared.room.Slot.TheVariants.{Settings, Capture, Note, Answer}
use Rattle.capture_feed.specs.Records.{Records}
use Rattle.capture_feed.specs.Captures.{records}
use Rattle.capture_feed.specs.Left.{HasNoHeader}
use Rattle.relay_settings.specs.Settings.{PlainSettings}
use Rattle.settings_read.specs.Accepted.{accepted}
use Rattle.relay_tool.specs.Endings.{status_of, note_of, fault, no_memory, not_capture, no_line, done}
use Rattle.relay_tool.specs.Words.{Asked, replay, check, drill, study, recording, form, word_of}
use Rattle.relay_tool.specs.Run.{Run, Job, replay_job, study_job, run_of, content_of, all_writes, most_settings, most_capture}
use Rattle.relay_tool.specs.Files.{is_slot, IsWritten, Reaches, AreNamed, IsUnstarted, HasSettingsAlone, IsStarted}

-- the note is a front of this text, and all of it where the count of Note did not rise
pub record IsNoted (text : List ℕ) (old new : RoomState) : Type 0 where
  pub front : (n : ℕ) × (new.note.bytes ≡ take n text)
  pub whole : (Rose old.note.faults new.note.faults → ⊥) → new.note.bytes ≡ text

-- A fault of the capture before its header was read: no output has a name, and where the capture is open, fewer than 24 bytes were taken.
pub record IsFaultAtHeader (job : Job) (old new : RoomState) : Type 0 where
  pub unstarted : IsUnstarted new
  pub taken : IsTrue old.tells → IsTrue new.capture.is_ready →
      (taken : List ℕ) × (length taken < 24) × (content_of old.contents job.capture ≡ taken ++ new.capture.bytes)

-- What was taken of the capture, and what is written of its records.
pub record IsReached (job : Job) (old new : RoomState) : Type 0 where
  pub settings : PlainSettings
  pub accepted : accepted (content_of old.contents job.settings) ≡ Ok settings
  pub taken : List ℕ
  pub long : 24 ≤ length taken
  pub is : content_of old.contents job.capture ≡ taken ++ new.capture.bytes
  pub found : Records
  pub records : records taken most_capture ≡ Some found
  pub written : IsWritten (all_writes job settings found.bodies) new

-- A fault of the capture behind its header: all files are open, and the outputs hold all that is written of the records that were taken.
pub record IsFaultAtRecord (asked : Asked) (job : Job) (old new : RoomState) : Type 0 where
  pub started : IsStarted (Some asked) new
  pub ready : IsTrue new.capture.is_ready
  pub reached : IsTrue old.tells → IsReached job old new

abbrev pub JobFault : Asked → Job → RoomState → RoomState → Type 0
JobFault asked job old new = IsFaultAtHeader job old new ⊎ IsFaultAtRecord asked job old new

abbrev pub CaptureFault : Option Asked → RoomState → RoomState → Type 0
CaptureFault (Some (replay names)) old new = JobFault (replay names) (replay_job names) old new
CaptureFault (Some (study s names)) old new = JobFault (study s names) (study_job s names) old new
-- `record` opens its outputs when the capture was read
CaptureFault (Some (recording names)) old new = IsUnstarted new
CaptureFault asked old new = ⊥

-- the words ask for `record`
abbrev pub IsRecording : Option Asked → Type 0
IsRecording (Some (recording names)) = Unit {0}
IsRecording asked = ⊥

-- `record` has two statuses more
abbrev pub most_status : Option Asked → ℕ
most_status (Some (recording names)) = 10
most_status asked = 8

-- the command answers on standard output
abbrev pub is_answered : Option Asked → Bool
is_answered (Some (check settings)) = true
is_answered (Some (drill seed seconds)) = true
is_answered asked = false

-- the slots that a command uses beside Note: each file that it has a word for, and standard output where it answers there
abbrev pub uses : Option Asked → Slot → Bool
uses asked slot = is_some (word_of asked slot) || (is_answered asked && is_slot slot Answer)

-- a call of this slot failed in the run that this is without faults
pub record FailsAt (asked : Option Asked) (slot : Slot) (run : Run) (old new : RoomState) : Type 0 where
  pub other : slot ≢ Note
  pub rose : Rose (at old slot).faults (at new slot).faults
  pub used : IsTrue old.tells → IsTrue (uses asked slot)
  -- one order of writes: all files stand at one place of it
  pub reached : IsTrue old.tells → Reaches asked slot run.writes new
  pub answer : IsTrue old.tells → (n : ℕ) × (new.answer.bytes ≡ take n run.answer)
  pub settings : slot ≡ Settings → HasSettingsAlone new
  pub capture : slot ≡ Capture → CaptureFault asked old new
  -- what comes before the fault in the order of work does not end the run
  pub accepted : IsTrue old.tells → status_of run.ending ≡ 2 → slot ≡ Settings
  pub header : IsTrue old.tells → run.ending ≡ not_capture → (slot ≡ Settings) ⊎ (slot ≡ Capture)
  pub named_line : IsTrue old.tells → run.ending ≡ no_line → slot ≡ Settings
  -- `record` opens no output where the line has fewer trips
  pub some_trip : IsTrue old.tells → IsRecording asked → run.writes ≡ [] → (slot ≡ Settings) ⊎ (slot ≡ Capture)

pub record IsFaulted (asked : Option Asked) (run : Run) (old new : RoomState) : Type 0 where
  pub slot : Slot
  pub fails : FailsAt asked slot run old new
  pub note : IsTrue old.tells → IsNoted (note_of (fault slot)) old new

-- want of memory ended it, before the capture or an output was opened
pub record IsOutOfMemory (asked : Option Asked) (old new : RoomState) : Type 0 where
  pub form : IsSome asked
  pub unopened : HasSettingsAlone new
  pub answer : IsTrue old.tells → new.answer.bytes ≡ []

-- no fault came but of Note
abbrev pub IsQuiet : RoomState → RoomState → Type 0
IsQuiet old new = (slot : Slot) → slot ≢ Note → Rose (at old slot).faults (at new slot).faults → ⊥

-- the statuses at which a run has opened its outputs
abbrev pub IsEnd : ℕ → Type 0
IsEnd status = list_any (λ s. s == status) (0 ∷ 4 ∷ 5 ∷ 8 ∷ []) ≡ true

-- `record` has opened its outputs by these statuses or has opened none: where the room tells content, exactly where there is something to write
pub record OpensPair (asked : Option Asked) (run : Run) (old new : RoomState) (status : ℕ) : Type 0 where
  pub whole : status ≡ 0 → IsStarted asked new
  pub either : IsStarted asked new ⊎ IsUnstarted new
  pub written : IsTrue old.tells → run.writes ≢ [] → IsStarted asked new
  pub unwritten : IsTrue old.tells → run.writes ≡ [] → IsUnstarted new

-- what is open at these statuses
abbrev pub HasOpened : Option Asked → Run → RoomState → RoomState → ℕ → Type 0
HasOpened (Some (recording names)) run old new status = OpensPair (Some (recording names)) run old new status
HasOpened asked run old new status = IsStarted asked new

-- how much of an input was read where that input ended the run, by the name that the words give it
pub record HasRead (asked : Option Asked) (old new : RoomState) (status : ℕ) : Type 0 where
  -- of refused settings all, or as far as one byte beyond their limit
  pub settings : IsTrue old.tells → status ≡ 2 → (name : List ℕ) → word_of asked Settings ≡ Some name → new.settings.bytes ≡ drop most_settings (content_of old.contents name)
  -- of what is no capture at least the bytes of a header, or all where it is shorter
  pub capture : IsTrue old.tells → status ≡ 3 → (name : List ℕ) → word_of asked Capture ≡ Some name → HasNoHeader (content_of old.contents name) new.capture.bytes

-- the room tells content, and neither a fault nor want of memory ended the run
abbrev pub IsWhole : RoomState → ℕ → Type 0
IsWhole old status = IsTrue old.tells × (status ≢ 6) × (status ≢ 7)

-- what a room is after a run that was asked for this and ended with this status
pub record AnswersTo (asked : Option Asked) (old new : RoomState) (status : ℕ) : Type 0 where
  pub known : status ≤ most_status asked
  -- the usage status comes exactly at words that are no form
  pub usage : (status ≡ 1) ↔ (asked ≡ None)
  -- where neither a fault nor want of memory ended it, it is the run that the definition gives, whatever counts rose
  pub result : IsWhole old status → status ≡ status_of (run_of asked old.contents).ending
  pub note : IsWhole old status → IsNoted (note_of (run_of asked old.contents).ending) old new
  pub files : IsWhole old status → IsWritten (run_of asked old.contents).writes new
  pub answer : IsWhole old status → new.answer.bytes ≡ (run_of asked old.contents).answer
  pub fault : status ≡ 6 → IsFaulted asked (run_of asked old.contents) old new
  pub memory : status ≡ 7 → IsOutOfMemory asked old new
  pub memory_note : status ≡ 7 → IsTrue old.tells → IsNoted (note_of no_memory) old new
  -- which files were opened, and by which names
  pub started : IsEnd status → HasOpened asked (run_of asked old.contents) old new status
  pub unstarted : (IsEnd status → ⊥) → status ≢ 6 → IsUnstarted new
  pub unopened : status ≡ 10 → HasSettingsAlone new
  pub read : HasRead asked old new status
  pub named : AreNamed asked new
  pub unready : (slot : Slot) → IsFile slot → IsOutput slot → (at new slot).name ≡ None → (at new slot).is_ready ≡ false
  pub later : (slot : Slot) → (at old slot).faults ≤ (at new slot).faults
  -- without a fault the run is complete, or memory was wanted before an output was opened
  pub quiet : IsQuiet old new → status ≢ 6
  pub complete : IsTrue old.tells → (run_of asked old.contents).ending ≡ done → IsQuiet old new → (status ≡ 0) ⊎ ((status ≡ 7) × IsUnstarted new)
  pub settled : IsTrue old.tells → IsQuiet old new → (status ≡ status_of (run_of asked old.contents).ending) ⊎ ((status ≡ 7) × IsUnstarted new)

abbrev pub Answers : List (List ℕ) → RoomState → RoomState → ℕ → Type 0
Answers words = AnswersTo (form words)
