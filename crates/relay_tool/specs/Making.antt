-- What a part of a run does to the room, and what it writes.
use Rattle.std.specs.Prelude.{◌≡◌, ℕ, ◌≤◌, Bool, false, ◌||◌, IsTrue, List, ◌++◌, reverse, Some, Result, OnOk, IfErr}
use Rattle.room_io.specs.Room.{RoomState, SlotState, at, Rose, OnlyAt, Stays, AppendsPart}
use Rattle.room_io.specs.declared.room.Slot.{Slot}
use Rattle.room_io.specs.declared.room.Slot.TheVariants.{Capture}
use Rattle.sv_frame.specs.Asdu.{PlainAsdu}
use Rattle.sv_frame.specs.Frame.{Sv}
use Rattle.relay_tool.specs.Output.{Item, Tells, frame_items, sets_of}
use Rattle.relay_tool.specs.Files.{is_slot, is_written, IsWrittenFile, written, front, slot_after}
use Rattle.relay_tool.specs.declared.put.Failed.{Failed}

-- an open slot that was read or written at most
pub record OnlyUsed (old new : SlotState) : Type 0 where
  pub name : new.name ≡ old.name
  pub ready : new.is_ready ≡ old.is_ready
  pub later : old.faults ≤ new.faults

-- these slots were read or written at most, and nothing else was done
pub record OnlyUses (used : Slot → Bool) (old new : RoomState) : Type 0 where
  pub tells : new.tells ≡ old.tells
  pub contents : new.contents ≡ old.contents
  pub others : (slot : Slot) → used slot ≡ false → at new slot ≡ at old slot
  pub each : (slot : Slot) → OnlyUsed (at old slot) (at new slot)

-- nothing but writes of output files
abbrev pub OnlyWrites : RoomState → RoomState → Type 0
OnlyWrites old new = OnlyUses is_written old new

-- nothing but reads of the capture and writes of output files
abbrev pub is_worked : Slot → Bool
is_worked slot = is_slot slot Capture || is_written slot

abbrev pub OnlyWorks : RoomState → RoomState → Type 0
OnlyWorks old new = OnlyUses is_worked old new

-- these writes were appended
pub record Appends (items : List Item) (old new : RoomState) : Type 0 where
  pub each : (slot : Slot) → IsWrittenFile slot → (at new slot).bytes ≡ (at old slot).bytes ++ written slot items

-- a front of these writes was appended: so many whole, of the next a front, and none further; and the next is of this slot
pub record StopsAt (slot : Slot) (items : List Item) (old new : RoomState) : Type 0 where
  pub whole : ℕ
  pub part : ℕ
  pub appended : Appends (front whole part items) old new
  pub next : slot_after whole items ≡ Some slot

-- a fault of this output file came, and these writes were not all made
pub record FailsIn (slot : Slot) (items : List Item) (old new : RoomState) : Type 0 where
  pub output : IsWrittenFile slot
  pub rose : Rose (at old slot).faults (at new slot).faults
  pub stops : IsTrue old.tells → StopsAt slot items old new

-- these writes were made, all at Ok and a front of them else
pub record Makes (items : List Item) (old new : RoomState) (result : Result (Unit {0}) Failed) : Type 0 where
  pub only : OnlyWrites old new
  pub all : OnOk result (IsTrue old.tells → Appends items old new)
  pub end : IfErr result (λ e. FailsIn e.slot items old new)

-- these bytes were appended to an output, all at Ok and a front of them else
pub record Puts (slot : Slot) (bytes : List ℕ) (old new : RoomState) (result : Result (Unit {0}) Failed) : Type 0 where
  pub only : OnlyAt slot old new
  pub stays : Stays (at old slot) (at new slot)
  pub later : (at old slot).faults ≤ (at new slot).faults
  pub whole : OnOk result (IsTrue old.tells → (at new slot).bytes ≡ (at old slot).bytes ++ bytes)
  pub part : IsTrue old.tells → AppendsPart (at old slot).bytes (at new slot).bytes bytes
  pub end : IfErr result (λ e. (e.slot ≡ slot) × Rose (at old slot).faults (at new slot).faults)

-- a record of this number with this frame was treated: what a bank tells of its sample sets was written, or the line of a
-- malformed one, and the bank, which stood as `before`, stands as `after`
pub record Treats (before after : Tells → List PlainAsdu → Type 0) (number : ℕ) (frame : Sv) (old new : RoomState) (result : Result (Unit {0}) Failed) : Type 0 where
  pub only : OnlyWrites old new
  pub made : (tells : Tells) (past : List PlainAsdu) → before tells past → Makes (frame_items tells number past frame) old new result
  pub stands : (tells : Tells) (past : List PlainAsdu) → before tells past → OnOk result (after tells (reverse (sets_of frame) ++ past))
