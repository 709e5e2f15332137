-- The feed's pieces one after another.
use Rattle.std.proofs.Common.{◌≡◌, ℕ, ◌≤◌, List, [], take, drop, min, IsTrue, refl, arith}
use Rattle.std.specs.Prelude.{Option, None, Some}
use Rattle.room_io.specs.Room.{RoomState, Rose}
use Rattle.capture_feed.specs.Records.{Records, TooLong, Cut, Damaged, stopped}
use Rattle.capture_feed.specs.Reads.{OnlyReads}
use Rattle.capture_feed.specs.Answers.{Goes, Gives, StopsAs}
use Rattle.capture_feed.specs.Pieces.{Lends, GivesPiece, left_by}
use Rattle.capture_feed.specs.Left.{found}
use Rattle.capture_feed.specs.declared.stop.FeedStop.{FeedStop}
use Rattle.capture_feed.specs.declared.stop.FeedStop.TheVariants as stops
use Rattle.capture_feed.specs.declared.piece.Place.{Place}
use Rattle.capture_feed.specs.Sections.{plain_section}
use Rattle.capture_feed.specs.declared.cursor.Cursor.{Cursor}
use Rattle.capture_feed.specs.declared.cursor.Cursor.TheVariants as cursors
use Rattle.capture_feed.specs.declared.block.Block.{Block}
use Rattle.capture_feed.specs.declared.feed.Feed.{Feed}
use Rattle.capture_feed.proofs.PieceLoops.{told_after}
use Rattle.capture_feed.proofs.Handing.{Goes-then, stop-then, none-then}
use Rattle.capture_feed.proofs.Taking.{records-long}

-- nothing was taken yet
pub Goes-none : (before : List ℕ → Records) (left : List ℕ) → Goes before before None left left
Goes-none before left = record { prefix = []; is = refl; one = λ more. refl }

-- the stop behind pieces without a record
pub stops-then : {before mid : List ℕ → Records} {old now : RoomState} (new : RoomState) (stop : FeedStop) → OnlyReads old now → (IsTrue old.tells → Goes before mid None old.capture.bytes now.capture.bytes) → StopsAs mid now new stop → StopsAs before old new stop
stops-then new stops.Cut reads goes at = λ told. stop-then (stopped Cut) (goes told) (at (told_after reads told))
stops-then new (stops.Damaged n) reads goes at = λ told. stop-then (stopped (Damaged n)) (goes told) (at (told_after reads told))
stops-then new stops.TooLong reads goes at = λ told. stop-then (stopped TooLong) (goes told) (at (told_after reads told))
stops-then {before} {mid} {old} {now} new stops.Fault reads goes at =
    ((let a = reads.later in let r : Rose now.capture.faults new.capture.faults = at.0 in omega arith), λ told. none-then (goes told) (at.1 (told_after reads told)))
stops-then new stops.NotCapture reads goes at = at

-- a piece with this record
pub gives-record : {before mid after : List ℕ → Records} {items : List ℕ} (place : Place) {old now new : List ℕ} → Goes before mid None old now → GivesPiece mid after items (Some place) now new →
    Gives before after (take (min place.captured 2048) (drop place.at items)) place.captured old new
gives-record {before} {mid} {after} {items} place {old} {now} {new} goes piece = by_body piece.body piece.goes piece.lends
  where
    by_body : (body : Option (List ℕ)) → Goes mid after body now new → Lends items body (Some place) → Gives before after (take (min place.captured 2048) (drop place.at items)) place.captured old new
    by_body None g l = absurd l
    by_body (Some body) g l = record { body = body; long = l.0; goes = Goes-then goes g; lent = l.1 }

-- a piece without one
pub goes-on : {before mid after : List ℕ → Records} {items : List ℕ} {old now new : List ℕ} → Goes before mid None old now → GivesPiece mid after items None now new → Goes before after None old new
goes-on {before} {mid} {after} {items} {old} {now} {new} goes piece = by_body piece.body piece.goes piece.lends
  where
    by_body : (body : Option (List ℕ)) → Goes mid after body now new → Lends items body None → Goes before after None old new
    by_body None g l = Goes-then goes g
    by_body (Some body) g l = absurd l

long-by : (by : Cursor) (block : Block) (limit taken : ℕ) (left : List ℕ) → limit ≤ taken → left_by by block limit taken left ≡ stopped TooLong
long-by (cursors.Pcap is_big) block limit taken left h = records-long _ limit is_big taken _ h
long-by (cursors.Pcapng section) block limit taken left h = records-long _ limit (plain_section section) taken _ h

-- the limit was taken
pub found-long : (feed : Feed) (left : List ℕ) → feed.limit ≤ feed.taken → found feed left ≡ stopped TooLong
unfolding found
found-long feed left h = long-by feed.cursor feed.block feed.limit feed.taken left h
