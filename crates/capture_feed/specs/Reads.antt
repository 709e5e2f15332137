-- How reads change what the capture has left.
use Rattle.std.specs.Prelude.{◌≡◌, ℕ, ◌≤◌, ◌<◌, List, ◌++◌, length, IsTrue}
use Rattle.room_io.specs.declared.room.Slot.TheVariants.{Capture}
use Rattle.room_io.specs.Room.{RoomState, OnlyAt, Stays}

-- some bytes were taken off the front
pub record Took (old new : List ℕ) : Type 0 where
  pub prefix : List ℕ
  pub is : old ≡ prefix ++ new

-- exactly so many bytes were passed over
pub record Passes (count : ℕ) (old new : List ℕ) : Type 0 where
  pub prefix : List ℕ
  pub long : length prefix ≡ count
  pub is : old ≡ prefix ++ new

-- some bytes were taken, fewer than so many
pub record BreaksOff (count : ℕ) (old new : List ℕ) : Type 0 where
  pub prefix : List ℕ
  pub short : length prefix < count
  pub is : old ≡ prefix ++ new

-- nothing has changed but what Capture has left, of which some was taken off the front, and its count, which has not fallen
pub record OnlyReads (old new : RoomState) : Type 0 where
  pub stays : Stays old.capture new.capture
  pub later : old.capture.faults ≤ new.capture.faults
  pub only : OnlyAt Capture old new
  pub took : IsTrue old.tells → Took old.capture.bytes new.capture.bytes
