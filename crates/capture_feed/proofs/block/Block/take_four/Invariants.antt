use Rattle.std.proofs.Common.{◌≡◌, ◌++◌, IsTrue, length, take}
use Rattle.capture_feed.specs.Reads.{OnlyReads}
use Rattle.capture_feed.specs.Block.{pending}
use Rattle.capture_feed.proofs.block.Block.take_four.Given as goal

abbrev pub invariant-loop-i : goal.invariant-loop-i
invariant-loop-i g l = record {
  bytes : l.self.bytes ≡ l.initial.self.bytes;
  long : length l.four ≡ 4;
  reads : OnlyReads (g.R.Room.state l.initial.room) (g.R.Room.state l.room);
  taken : IsTrue (g.R.Room.state l.initial.room).tells →
      pending l.initial.self ++ (g.R.Room.state l.initial.room).capture.bytes ≡ take l.i l.four ++ (pending l.self ++ (g.R.Room.state l.room).capture.bytes);
}
