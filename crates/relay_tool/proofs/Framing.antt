-- A malformed frame's line in the log.
use Rattle.std.proofs.Common.{◌≡◌, ℕ, List, [], subst}
use Rattle.std.specs.Prelude.{Result, Ok, Err, OnOk}
use Rattle.room_io.specs.Room.{RoomState}
use Rattle.sv_frame.specs.Asdu.{PlainAsdu}
use Rattle.sv_frame.specs.Frame.{Sv, bad}
use Rattle.sv_frame.specs.declared.Reason.{Reason}
use Rattle.relay_tool.specs.Output.{Tells, frame_items}
use Rattle.relay_tool.specs.Making.{Makes, Treats}
use Rattle.relay_tool.specs.declared.put.Failed.{Failed}

on_ok : (P : Type 0) (result : Result (Unit {0}) Failed) → P → OnOk result P
on_ok P (Ok done) it = it
on_ok P (Err failed) it = tt

-- a bank hears nothing of it
pub malformed-treats : (stands : Tells → List PlainAsdu → Type 0) (number : ℕ) (reason : Reason) (frame : Sv) {a b : RoomState} (result : Result (Unit {0}) Failed) →
    bad reason ≡ frame → ((tells : Tells) (past : List PlainAsdu) → Makes (frame_items tells number past (bad reason)) a b result) → Treats stands stands number frame a b result
malformed-treats stands number reason frame {a} {b} result is made = subst (λ (f : Sv). Treats stands stands number f a b result) is (record {
  only = (made (λ past. []) []).only;
  made = λ tells past it. made tells past;
  stands = λ tells past it. on_ok (stands tells past) result it;
})
