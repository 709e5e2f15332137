-- What a feed has left of its input, which is all that is known of it above.
use Rattle.std.specs.Prelude.{◌≡◌, ◌⊎◌, ℕ, ◌+◌, ◌++◌, ◌≤◌, Bool, false, List, [], length, Option, None, Some, Result, IfOk, IfNone, IfErr, IsErrOf, IsTrue}
use Rattle.room_io.specs.Room.{RoomState}
use Rattle.capture_feed.specs.Records.{Records, Whole, stopped}
use Rattle.capture_feed.specs.Captures.{format, records}
use Rattle.capture_feed.specs.Block.{pending}
use Rattle.capture_feed.specs.Pieces.{left_by, IsUnsectioned}
use Rattle.capture_feed.specs.Reads.{OnlyReads}
use Rattle.capture_feed.specs.Answers.{Gives, StopsAs}
use Rattle.capture_feed.specs.declared.stop.FeedStop.{FeedStop}
use Rattle.capture_feed.specs.declared.stop.FeedStop.TheVariants.{TooLong}
use Rattle.capture_feed.specs.declared.feed.Feed.{Feed}

-- the records that the feed has still to hand out, where the input has these bytes left
unfoldable pub found : Feed → List ℕ → Records
found feed left = left_by feed.cursor feed.block feed.limit feed.taken left

-- whether the next record may be asked for
abbrev pub is_live : Feed → Bool
is_live feed = feed.is_live

-- nothing was read yet
abbrev pub IsFresh : Feed → Type 0
IsFresh feed = (feed.is_live ≡ false) × (pending feed.block ≡ []) × (feed.taken ≡ 0) × IsUnsectioned feed.cursor

-- how many bytes were taken so far
abbrev pub taken_by : Feed → ℕ
taken_by feed = feed.taken

-- a piece is read only while fewer bytes were taken
abbrev pub limit_of : Feed → ℕ
limit_of feed = feed.limit

-- the header was read: whatever comes behind the bytes that were taken, the feed has the capture's records to hand out
pub record Begins (feed : Feed) (old new : List ℕ) : Type 0 where
  pub prefix : List ℕ
  pub long : 24 ≤ length prefix
  pub is : old ≡ prefix ++ new
  pub all : (more : List ℕ) → records (prefix ++ more) feed.limit ≡ Some (found feed more)

-- the first 24 bytes, or all of a shorter input, were read, and are no header
pub record HasNoHeader (old new : List ℕ) : Type 0 where
  pub prefix : List ℕ
  pub is : old ≡ prefix ++ new
  pub enough : (24 ≤ length prefix) ⊎ (new ≡ [])
  pub none : format prefix ≡ None
  pub records : (limit : ℕ) → records old limit ≡ None

-- a record was handed out, of which these bytes are lent
pub record HandsOut (before after : Feed) (bytes : List ℕ) (captured : ℕ) (old new : RoomState) : Type 0 where
  pub taken : before.taken + (16 + captured) ≤ after.taken
  pub gives : IsTrue old.tells → Gives (found before) (found after) bytes captured old.capture.bytes new.capture.bytes

-- the next record was asked for
pub record AsksNext {A : Type 0} (feed : Feed) (old new : RoomState) (result : Result (Option A) FeedStop) : Type 0 where
  pub reads : OnlyReads old new
  -- no record comes exactly at the capture's whole end
  pub whole : IfOk result (λ got. IfNone got (IsTrue old.tells → found feed old.capture.bytes ≡ stopped Whole))
  pub stop : IfErr result (λ stop. StopsAs (found feed) old new stop)
  -- where the limit was taken nothing is read
  pub full : feed.limit ≤ feed.taken → IsErrOf result TooLong × (new ≡ old)
