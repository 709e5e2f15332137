use Rattle.std.proofs.Common.{◌*◌, ◌-◌, ◌≤◌, IsTrue, ℕ, []}
use Rattle.room_io.specs.Room.{IsReadyIn, OnlyAt, Stays}
use Rattle.room_io.specs.declared.room.Slot.TheVariants.{Capture}
use Rattle.capture_feed.specs.Left.{found, is_live, taken_by, limit_of}
use Rattle.relay_settings.specs.declared.types.Common.{Common}
use Rattle.relay_settings.specs.Settings.{PlainLine}
use Rattle.comtrade_write.specs.KeptRecorder.{StandsFor, heard_of}
use Rattle.relay_tool.proofs.Listening.{Heeded}
use Rattle.relay_tool.proofs.listen.listen_all.Given as goal

abbrev pub invariant-records : goal.invariant-records
invariant-records g l = record {
  live : IsTrue (is_live l.feed);
  capture : IsReadyIn Capture (g.R.Room.state l.room);
  counted : 16 * l.records ≤ taken_by l.feed;
  heard : heard_of l.recorder ≤ 16 * l.records;
  only : OnlyAt Capture (g.R.Room.state l.fn.room) (g.R.Room.state l.room);
  stays : Stays (g.R.Room.state l.fn.room).capture (g.R.Room.state l.room).capture;
  later : (g.R.Room.state l.fn.room).capture.faults ≤ (g.R.Room.state l.room).capture.faults;
  heeded : (common : Common) (settings : PlainLine) (k : ℕ) → StandsFor common settings k [] l.fn.recorder →
      Heeded (λ past. StandsFor common settings k past l.recorder) (found l.fn.feed) (g.R.Room.state l.fn.room).capture.bytes l.records (found l.feed)
      (g.R.Room.state l.room).capture.bytes (g.R.Room.state l.fn.room);
}

abbrev pub decreases-records : goal.decreases-records
decreases-records g l = limit_of l.feed - taken_by l.feed
