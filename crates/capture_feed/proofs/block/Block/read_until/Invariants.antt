use Rattle.std.proofs.Common.{◌≡◌, ◌++◌, IsTrue, ◌-◌}
use Rattle.capture_feed.specs.Reads.{OnlyReads}
use Rattle.capture_feed.specs.Block.{pending}
use Rattle.capture_feed.proofs.block.Block.read_until.Given as goal

abbrev pub invariant-loop-self : goal.invariant-loop-self
invariant-loop-self g l = record {
  front : l.self.at ≡ 0;
  reads : OnlyReads (g.R.Room.state l.initial.room) (g.R.Room.state l.room);
  left : IsTrue (g.R.Room.state l.initial.room).tells →
      pending l.fn.self ++ (g.R.Room.state l.initial.room).capture.bytes ≡ pending l.self ++ (g.R.Room.state l.room).capture.bytes;
}

abbrev pub decreases-loop-self : goal.decreases-loop-self
decreases-loop-self g l = l.need - l.self.end
