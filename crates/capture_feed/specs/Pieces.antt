-- What a format's reader tells of the next piece of a capture.
use Rattle.std.specs.Prelude.{◌≡◌, ℕ, ◌+◌, ◌++◌, ◌^◌, ◌≤◌, ◌<◌, List, length, take, drop, min, Option, None, Some, Result, IfOk, IfSome, IfNone, IfErr, IsTrue, vec_len}
use Rattle.room_io.specs.Room.{RoomState}
use Rattle.capture_feed.specs.Records.{Records, Whole, stopped, records_from}
use Rattle.capture_feed.specs.Pcap.{first_record}
use Rattle.capture_feed.specs.Pcapng.{first_block, no_section}
use Rattle.capture_feed.specs.Sections.{plain_section}
use Rattle.capture_feed.specs.Block.{pending}
use Rattle.capture_feed.specs.Answers.{Goes, StopsAs}
use Rattle.capture_feed.specs.declared.block.Block.{Block}
use Rattle.capture_feed.specs.declared.stop.FeedStop.{FeedStop}
use Rattle.capture_feed.specs.declared.piece.Piece.{Piece}
use Rattle.capture_feed.specs.declared.piece.Place.{Place}
use Rattle.capture_feed.specs.declared.content.Content.{Content}
use Rattle.capture_feed.specs.declared.content.Content.TheVariants.{Description, Packet, Passed}
use Rattle.capture_feed.specs.declared.cursor.Cursor.{Cursor}
use Rattle.capture_feed.specs.declared.cursor.Cursor.TheVariants.{Pcap, Pcapng}

-- the records that are left of an input, behind what the block holds of it and `taken` bytes before
abbrev pub left_by : Cursor → Block → ℕ → ℕ → List ℕ → Records
left_by (Pcap is_big) block limit taken left = records_from first_record limit is_big taken (pending block ++ left)
left_by (Pcapng section) block limit taken left = records_from first_block limit (plain_section section) taken (pending block ++ left)

-- no section was begun
abbrev pub IsUnsectioned : Cursor → Type 0
IsUnsectioned (Pcap is_big) = ⊥
IsUnsectioned (Pcapng section) = plain_section section ≡ no_section

-- where the packet of a block that begins here stands
abbrev pub place_at : Content → ℕ → Option Place
place_at (Packet from captured) at = Some (record { at = at + from; captured = captured })
place_at (Description interface) at = None
place_at Passed at = None

-- a packet's bytes begin near
abbrev pub IsNear : Content → Type 0
IsNear (Packet from captured) = from ≤ 28
IsNear (Description interface) = Unit {0}
IsNear Passed = Unit {0}

-- the record's captured bytes stand at this place, as far as they are lent
abbrev pub Lends : List ℕ → Option (List ℕ) → Option Place → Type 0
Lends items None None = Unit {0}
Lends items (Some body) (Some place) = (length body ≡ place.captured) × (take (min place.captured 2048) (drop place.at items) ≡ take 2048 body)
Lends items None (Some place) = ⊥
Lends items (Some body) None = ⊥

-- a piece of the capture was taken off
pub record GivesPiece (before after : List ℕ → Records) (items : List ℕ) (packet : Option Place) (old new : List ℕ) : Type 0 where
  pub body : Option (List ℕ)
  pub goes : Goes before after body old new
  pub lends : Lends items body packet

-- whatever the room tells, a piece has a byte at least, and its record is within it and within the block as far as it is lent
pub record IsSound (block : Block) (piece : Piece) : Type 0 where
  pub some : 0 < piece.size
  pub most : piece.size ≤ 2 ^ 25
  pub packet : IfSome piece.packet (λ place. (place.at + min place.captured 2048 ≤ vec_len block.bytes) × (16 + place.captured ≤ piece.size))

-- the next piece, or why there is none
pub record Asks (before : List ℕ → Records) (after : ℕ → List ℕ → Records) (block : Block) (old new : RoomState) (result : Result (Option Piece) FeedStop) : Type 0 where
  pub piece : IfOk result (λ got. IfSome got (λ piece. IsTrue old.tells →
      GivesPiece before (after piece.size) block.bytes.items piece.packet old.capture.bytes new.capture.bytes))
  pub whole : IfOk result (λ got. IfNone got (IsTrue old.tells → before old.capture.bytes ≡ stopped Whole))
  pub stop : IfErr result (λ stop. StopsAs before old new stop)
