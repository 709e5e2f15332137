use Rattle.std.proofs.Common.{◌≡◌, ◌++◌, ◌+◌, List, take, reverse, IsTrue}
use Rattle.std.specs.Prelude.{Ok}
use Rattle.sample_windows.specs.Windows.{in_order}
use Rattle.room_io.specs.Room.{IsReadyOut}
use Rattle.room_io.specs.declared.room.Slot.{Slot}
use Rattle.sv_frame.specs.Asdu.{PlainAsdu, plain_asdus}
use Rattle.relay_tool.specs.Output.{Tells}
use Rattle.relay_tool.specs.Making.{Makes, OnlyWrites}
use Rattle.relay_tool.proofs.run.hear_all.Given as goal

abbrev pub invariant-loop-asdu : goal.invariant-loop-asdu
invariant-loop-asdu g l = record {
  heard : g.B.Bank.heard l.bank ≡ g.B.Bank.heard l.fn.bank + l.asdu-index;
  open_outputs : (slot : Slot) → IsTrue (g.B.Bank.outputs slot) → IsReadyOut slot (g.R.Room.state l.room);
  only : OnlyWrites (g.R.Room.state l.fn.room) (g.R.Room.state l.room);
  made : (tells : Tells) (past : List PlainAsdu) → g.B.Bank.stands l.fn.bank tells past →
      Makes (in_order tells past (take l.asdu-index (plain_asdus l.asdus))) (g.R.Room.state l.fn.room) (g.R.Room.state l.room) (Ok tt);
  after : (tells : Tells) (past : List PlainAsdu) → g.B.Bank.stands l.fn.bank tells past →
      g.B.Bank.stands l.bank tells (reverse (take l.asdu-index (plain_asdus l.asdus)) ++ past);
}
