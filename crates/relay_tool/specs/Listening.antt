-- What the hearing of a capture's records leaves.
use Rattle.std.specs.Prelude.{◌≡◌, ◌≤◌, ℕ, IsTrue, List, [], length, Result, IfOk, IfErr}
use Rattle.room_io.specs.Room.{RoomState, OnlyAt, Stays, Rose}
use Rattle.room_io.specs.declared.room.Slot.TheVariants.{Capture}
use Rattle.capture_feed.specs.Records.{Records}
use Rattle.sv_frame.specs.Asdu.{PlainAsdu}
use Rattle.relay_tool.specs.Output.{heard}
use Rattle.relay_tool.specs.Run.{ending_at}
use Rattle.relay_tool.specs.Running.{ending_of_stop}
use Rattle.relay_tool.specs.declared.put.Failed.{Failed}
use Rattle.relay_tool.specs.declared.run.Stopped.{Stopped}

-- the capture stopped: what was found is all that these bytes hold, and all its sample sets were heard
pub record HeardAsFound (Stands : List PlainAsdu → Type 0) (found : Records) (stop : Stopped) : Type 0 where
  pub ending : ending_of_stop stop ≡ ending_at found.stop (length found.bodies)
  pub stands : Stands (heard [] found.bodies)

pub record BrokenOff (old new : RoomState) (e : Failed) : Type 0 where
  pub capture : e.slot ≡ Capture
  pub rose : Rose old.capture.faults new.capture.faults

-- the records that are left of an input were heard, of which `left` says what it finds in so many bytes
pub record Listens (Stands : List PlainAsdu → Type 0) (left : List ℕ → Records) (old new : RoomState) (result : Result Stopped Failed) : Type 0 where
  pub only : OnlyAt Capture old new
  pub stays : Stays old.capture new.capture
  pub later : old.capture.faults ≤ new.capture.faults
  -- some sample sets were heard, whether the room tells content or not
  pub past : List PlainAsdu
  pub stands : Stands past
  pub stops : IfOk result (λ stop. IsTrue old.tells → HeardAsFound Stands (left old.capture.bytes) stop)
  pub end : IfErr result (BrokenOff old new)
