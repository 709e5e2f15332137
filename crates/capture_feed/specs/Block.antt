-- The bytes that a feed has read ahead.
use Rattle.std.specs.Prelude.{◌≡◌, ℕ, ◌<◌, List, [], ◌++◌, length, take, drop, Result, OnOk, OnErr, IsTrue}
use Rattle.room_io.specs.Room.{RoomState, Rose}
use Rattle.room_io.specs.declared.room.Fault.{Fault}
use Rattle.capture_feed.specs.Reads.{OnlyReads}
use Rattle.capture_feed.specs.declared.block.Block.{Block}

-- the bytes that were read and not yet handed out
abbrev pub pending : Block → List ℕ
pending block = drop block.at (take block.end block.bytes.items)

-- reads behind what is held, until that is so many bytes or the input ends; they break off only before
pub record Fills (need : ℕ) (before after : Block) (old new : RoomState) (result : Result (Unit {0}) Fault) : Type 0 where
  pub left : IsTrue old.tells → pending before ++ old.capture.bytes ≡ pending after ++ new.capture.bytes
  pub end : OnOk result (IsTrue old.tells → length (pending after) < need → new.capture.bytes ≡ [])
  pub short : OnErr result (length (pending after) < need)
  pub reads : OnlyReads old new
  pub failed : OnErr result (Rose old.capture.faults new.capture.faults)
