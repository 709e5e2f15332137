-- What the opening of a file leaves.
use Rattle.std.specs.Prelude.{◌≡◌, ℕ, ◌≤◌, ◌<◌, false, IsTrue, List, [], ◌++◌, length, Some, Result, OnOk, IfErr}
use Rattle.room_io.specs.Room.{RoomState, at, Rose, OnlyAt}
use Rattle.room_io.specs.declared.room.Slot.{Slot}
use Rattle.room_io.specs.declared.room.Slot.TheVariants.{Capture}
use Rattle.capture_feed.specs.Left.{is_live, limit_of, Begins, HasNoHeader}
use Rattle.capture_feed.specs.declared.feed.Feed.{Feed}
use Rattle.relay_tool.specs.Endings.{Ending, not_capture, fault}
use Rattle.relay_tool.specs.Run.{content_of, most_capture}
use Rattle.relay_tool.specs.declared.put.Failed.{Failed}
use Rattle.relay_tool.specs.declared.files.CaptureStop.{CaptureStop}
use Rattle.relay_tool.specs.declared.files.CaptureStop.TheVariants.{Fault, NotCapture}

abbrev pub capture_ending : CaptureStop → Ending
capture_ending Fault = fault Capture
capture_ending NotCapture = not_capture

-- the count of the capture rose, and where the capture is open fewer than 24 bytes were taken
pub record FailsAtHeader (name : List ℕ) (old new : RoomState) : Type 0 where
  pub rose : Rose old.capture.faults new.capture.faults
  pub taken : IsTrue old.tells → IsTrue new.capture.is_ready →
      (taken : List ℕ) × (length taken < 24) × (content_of old.contents name ≡ taken ++ new.capture.bytes)

-- why no record is asked for
abbrev pub CaptureEnd : List ℕ → RoomState → RoomState → CaptureStop → Type 0
CaptureEnd name old new NotCapture = IsTrue old.tells → HasNoHeader (content_of old.contents name) new.capture.bytes
CaptureEnd name old new Fault = FailsAtHeader name old new

-- the capture was opened and its header read
pub record OpensCapture (name : List ℕ) (old new : RoomState) (feed : Feed) (result : Result (Unit {0}) CaptureStop) : Type 0 where
  pub only : OnlyAt Capture old new
  pub named : new.capture.name ≡ Some name
  pub later : old.capture.faults ≤ new.capture.faults
  pub ready : OnOk result (IsTrue new.capture.is_ready)
  pub live : OnOk result (IsTrue (is_live feed) × (limit_of feed ≡ most_capture))
  pub begun : OnOk result (IsTrue old.tells → Begins feed (content_of old.contents name) new.capture.bytes)
  pub end : IfErr result (λ stop. CaptureEnd name old new stop)

-- an output file could not be opened
pub record StaysShut (slot : Slot) (old new : RoomState) (e : Failed) : Type 0 where
  pub same : e.slot ≡ slot
  pub shut : (at new slot).is_ready ≡ false
  pub rose : Rose (at old slot).faults (at new slot).faults

-- an output file was opened
pub record OpensOutput (slot : Slot) (name : List ℕ) (old new : RoomState) (result : Result (Unit {0}) Failed) : Type 0 where
  pub only : OnlyAt slot old new
  pub named : (at new slot).name ≡ Some name
  pub later : (at old slot).faults ≤ (at new slot).faults
  pub ready : OnOk result (IsTrue (at new slot).is_ready)
  pub empty : IsTrue old.tells → (at new slot).bytes ≡ []
  pub end : IfErr result (λ e. StaysShut slot old new e)
