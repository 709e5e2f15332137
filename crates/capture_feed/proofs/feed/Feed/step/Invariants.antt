use Rattle.std.proofs.Common.{◌-◌, ◌≡◌, ◌≤◌, false, IsTrue}
use Rattle.std.specs.Prelude.{None}
use Rattle.capture_feed.specs.Reads.{OnlyReads}
use Rattle.capture_feed.specs.Answers.{Goes}
use Rattle.capture_feed.specs.Left.{found}
use Rattle.capture_feed.proofs.feed.Feed.step.Given as goal

abbrev pub invariant-loop-self : goal.invariant-loop-self
invariant-loop-self g l = record {
  limit : l.self.limit ≡ l.fn.self.limit;
  dead : l.self.is_live ≡ false;
  taken : l.fn.self.taken ≤ l.self.taken;
  unread : l.fn.self.limit ≤ l.fn.self.taken → g.R.Room.state l.room ≡ g.R.Room.state l.fn.room;
  reads : OnlyReads (g.R.Room.state l.fn.room) (g.R.Room.state l.room);
  goes : IsTrue (g.R.Room.state l.fn.room).tells → Goes (found l.fn.self) (found l.self) None (g.R.Room.state l.fn.room).capture.bytes (g.R.Room.state l.room).capture.bytes;
}

abbrev pub decreases-loop-self : goal.decreases-loop-self
decreases-loop-self g l = l.self.limit - l.self.taken
