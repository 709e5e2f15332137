use Rattle.std.proofs.Common.{◌-◌, IsTrue}
use Rattle.room_io.specs.Room.{IsReadyIn}
use Rattle.room_io.specs.Mem.{mem_state}
use Rattle.room_io.specs.declared.room.Slot.TheVariants.{Capture}
use Rattle.capture_feed.specs.Left.{is_live, taken_by, limit_of}
use Rattle.capture_tests.proofs.tests.records_of.Given as goal

abbrev pub invariant-records : goal.invariant-records
invariant-records l = IsTrue (is_live l.feed) × IsReadyIn Capture (mem_state l.room)

abbrev pub decreases-records : goal.decreases-records
decreases-records l = limit_of l.feed - taken_by l.feed
