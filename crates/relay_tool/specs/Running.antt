-- What a run over a capture's records leaves.
use Rattle.std.specs.Prelude.{◌≡◌, ◌⊎◌, ℕ, IsTrue, List, ◌++◌, length, Result, Ok, Err, IfOk, IfErr}
use Rattle.room_io.specs.Room.{RoomState, Rose}
use Rattle.room_io.specs.declared.room.Slot.{Slot}
use Rattle.room_io.specs.declared.room.Slot.TheVariants as slots
use Rattle.capture_feed.specs.Records.{Records}
use Rattle.capture_feed.specs.declared.stop.FeedStop.{FeedStop}
use Rattle.capture_feed.specs.declared.stop.FeedStop.TheVariants as stops
use Rattle.relay_tool.specs.Endings.{Ending, done, cut, damaged, too_long}
use Rattle.relay_tool.specs.Output.{Item, Tells, out}
use Rattle.relay_tool.specs.Run.{ending_at}
use Rattle.relay_tool.specs.Making.{OnlyWorks, Appends, FailsIn}
use Rattle.relay_tool.specs.declared.put.Failed.{Failed}
use Rattle.relay_tool.specs.declared.run.Stopped.{Stopped}
use Rattle.relay_tool.specs.declared.run.Stopped.TheVariants.{Whole, Cut, Damaged, TooLong}

abbrev pub ending_of_stop : Stopped → Ending
ending_of_stop Whole = done
ending_of_stop (Cut records) = cut records
ending_of_stop (Damaged records size) = damaged records size
ending_of_stop (TooLong records) = too_long records

-- where the feed stops behind so many records
abbrev pub halted : FeedStop → ℕ → Result Stopped Failed
halted stops.Fault records = Err (record { slot = slots.Capture })
halted stops.NotCapture records = Err (record { slot = slots.Capture })
halted stops.Cut records = Ok (Cut records)
halted (stops.Damaged size) records = Ok (Damaged records size)
halted stops.TooLong records = Ok (TooLong records)

-- the capture stopped: what was found is all that these bytes hold
pub record StopsAsFound (tells : Tells) (found : Records) (old new : RoomState) (stop : Stopped) : Type 0 where
  pub ending : ending_of_stop stop ≡ ending_at found.stop (length found.bodies)
  pub written : Appends (out tells found.bodies) old new

-- A read failed: the bytes that were taken behind the header, and what is written of their records.
pub record BreaksOffAt (tells : Tells) (left : List ℕ → Records) (whole : List ℕ) (old new : RoomState) : Type 0 where
  pub front : List ℕ
  pub is : whole ≡ front ++ new.capture.bytes
  pub written : Appends (out tells (left front).bodies) old new
  -- which is a front of all that is written
  pub rest : List Item
  pub more : out tells (left whole).bodies ≡ out tells (left front).bodies ++ rest

pub record BreaksOff (slot : Slot) (tells : Tells) (left : List ℕ → Records) (whole : List ℕ) (old new : RoomState) : Type 0 where
  pub capture : slot ≡ slots.Capture
  pub rose : Rose old.capture.faults new.capture.faults
  pub at : IsTrue old.tells → BreaksOffAt tells left whole old new

-- the records that are left of an input were treated, of which `left` says what it finds in so many bytes
pub record Runs (tells : Tells) (left : List ℕ → Records) (old new : RoomState) (result : Result Stopped Failed) : Type 0 where
  pub only : OnlyWorks old new
  pub stops : IfOk result (λ stop. IsTrue old.tells → StopsAsFound tells (left old.capture.bytes) old new stop)
  pub end : IfErr result (λ e. BreaksOff e.slot tells left old.capture.bytes old new ⊎ FailsIn e.slot (out tells (left old.capture.bytes).bodies) old new)
