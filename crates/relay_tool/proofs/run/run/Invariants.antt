use Rattle.std.proofs.Common.{◌*◌, ◌-◌, ◌≤◌, IsTrue, []}
use Rattle.room_io.specs.Room.{IsReadyIn, IsReadyOut}
use Rattle.room_io.specs.declared.room.Slot.{Slot}
use Rattle.room_io.specs.declared.room.Slot.TheVariants.{Capture, Log}
use Rattle.capture_feed.specs.Left.{found, is_live, taken_by, limit_of}
use Rattle.relay_tool.specs.Output.{Tells}
use Rattle.relay_tool.specs.Making.{OnlyWorks}
use Rattle.relay_tool.proofs.Treating.{Treated}
use Rattle.relay_tool.proofs.run.run.Given as goal

abbrev pub invariant-records : goal.invariant-records
invariant-records g l = record {
  live : IsTrue (is_live l.feed);
  capture : IsReadyIn Capture (g.R.Room.state l.room);
  log : IsReadyOut Log (g.R.Room.state l.room);
  open_outputs : (slot : Slot) → IsTrue (g.B.Bank.outputs slot) → IsReadyOut slot (g.R.Room.state l.room);
  counted : 16 * l.records ≤ taken_by l.feed;
  heard : g.B.Bank.heard l.bank ≤ 16 * l.records;
  only : OnlyWorks (g.R.Room.state l.fn.room) (g.R.Room.state l.room);
  treated : (tells : Tells) → g.B.Bank.stands l.fn.bank tells [] →
      Treated (g.B.Bank.stands l.bank tells) tells (found l.fn.feed) (g.R.Room.state l.fn.room).capture.bytes l.records (found l.feed)
      (g.R.Room.state l.room).capture.bytes (g.R.Room.state l.fn.room) (g.R.Room.state l.room);
}

abbrev pub decreases-records : goal.decreases-records
decreases-records g l = limit_of l.feed - taken_by l.feed
