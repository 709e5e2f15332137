-- What a command leaves, before the note is written.
use Rattle.std.specs.Prelude.{◌≡◌, ◌↔◌, ◌≤◌, IsTrue, Option, None}
use Rattle.room_io.specs.Room.{RoomState, at}
use Rattle.room_io.specs.declared.room.Slot.{Slot}
use Rattle.relay_tool.specs.Endings.{Ending, status_of, fault, no_memory, no_trip, no_line}
use Rattle.relay_tool.specs.Words.{Asked}
use Rattle.relay_tool.specs.Run.{Run, run_of}
use Rattle.relay_tool.specs.Files.{IsWritten, AreNamed, IsUnstarted, HasSettingsAlone}
use Rattle.relay_tool.specs.Answers.{FailsAt, IsOutOfMemory, IsEnd, IsRecording, HasOpened, HasRead}

-- the run ended so, and all that it writes was written
pub record Gives (run : Run) (ending : Ending) (new : RoomState) : Type 0 where
  pub ends_as : run.ending ≡ ending
  pub files : IsWritten run.writes new
  pub answer : new.answer.bytes ≡ run.answer

-- neither a fault nor want of memory ended it
pub record Completes (asked : Option Asked) (ending : Ending) (old new : RoomState) : Type 0 where
  pub usage : (status_of ending ≡ 1) ↔ (asked ≡ None)
  pub gives : IsTrue old.tells → Gives (run_of asked old.contents) ending new
  pub started : IsEnd (status_of ending) → HasOpened asked (run_of asked old.contents) old new (status_of ending)
  pub unstarted : (IsEnd (status_of ending) → ⊥) → IsUnstarted new
  pub read : HasRead asked old new (status_of ending)

abbrev pub EndsAs : Option Asked → RoomState → RoomState → Ending → Type 0
EndsAs asked old new (fault slot) = (asked ≡ None → ⊥) × FailsAt asked slot (run_of asked old.contents) old new
EndsAs asked old new no_memory = IsOutOfMemory asked old new
EndsAs asked old new (no_trip trips) = IsRecording asked × Completes asked (no_trip trips) old new
EndsAs asked old new no_line = IsRecording asked × HasSettingsAlone new × Completes asked no_line old new
EndsAs asked old new ending = Completes asked ending old new

pub record Leaves (asked : Option Asked) (old new : RoomState) (ending : Ending) : Type 0 where
  pub tells : new.tells ≡ old.tells
  pub note : new.note ≡ old.note
  pub named : AreNamed asked new
  pub later : (slot : Slot) → (at old slot).faults ≤ (at new slot).faults
  pub end : EndsAs asked old new ending
