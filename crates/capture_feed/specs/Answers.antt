-- What a reader of captures tells of the records that are left. `before` and `after` say which records an input holds that has
-- these bytes left.
use Rattle.std.specs.Prelude.{◌≡◌, ℕ, ◌++◌, List, [], length, take, Option, Some, IsTrue}
use Rattle.room_io.specs.Room.{RoomState, Rose}
use Rattle.capture_feed.specs.Records.{Records, Damaged, Cut, TooLong, put, stopped}
use Rattle.capture_feed.specs.declared.stop.FeedStop.{FeedStop}
use Rattle.capture_feed.specs.declared.stop.FeedStop.TheVariants as stops

-- bytes were taken off the input that hold this record, or none: whatever comes behind them, it is one record before the others
pub record Goes (before after : List ℕ → Records) (body : Option (List ℕ)) (old new : List ℕ) : Type 0 where
  pub prefix : List ℕ
  pub is : old ≡ prefix ++ new
  pub one : (more : List ℕ) → before (prefix ++ more) ≡ put body (after more)

-- a record was handed out, of which these bytes are lent
pub record Gives (before after : List ℕ → Records) (bytes : List ℕ) (captured : ℕ) (old new : List ℕ) : Type 0 where
  -- its captured bytes
  pub body : List ℕ
  pub long : length body ≡ captured
  pub goes : Goes before after (Some body) old new
  -- the first 2048 of them
  pub lent : bytes ≡ take 2048 body

-- what was read so far holds no further whole record
pub record HoldsNone (before : List ℕ → Records) (old new : List ℕ) : Type 0 where
  pub prefix : List ℕ
  pub is : old ≡ prefix ++ new
  pub none : (before prefix).bodies ≡ []

-- why no record comes: the capture's stop, or a read that failed
abbrev pub StopsAs : (List ℕ → Records) → RoomState → RoomState → FeedStop → Type 0
StopsAs before old new stops.Cut = IsTrue old.tells → before old.capture.bytes ≡ stopped Cut
StopsAs before old new (stops.Damaged length) = IsTrue old.tells → before old.capture.bytes ≡ stopped (Damaged length)
StopsAs before old new stops.TooLong = IsTrue old.tells → before old.capture.bytes ≡ stopped TooLong
StopsAs before old new stops.Fault = Rose old.capture.faults new.capture.faults × (IsTrue old.tells → HoldsNone before old.capture.bytes new.capture.bytes)
StopsAs before old new stops.NotCapture = ⊥
