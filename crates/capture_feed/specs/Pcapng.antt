-- A pcapng file (draft-ietf-opsawg-pcapng): blocks, each with a type of 4 bytes, its total length in 4 bytes, what the type says,
-- and the total length again. A section header begins a section, whose numbers have one byte order.
use Rattle.std.specs.Prelude.{ℕ, ◌+◌, ◌-◌, ◌*◌, ◌/◌, ◌%◌, min, Bool, true, false, not, ◌&&◌, ◌||◌, nat_le, nat_lt, ◌==◌, if◌then◌else◌, is_some, unwrap_or, slice_get, List, [], ◌∷◌, ◌++◌, length, take, drop, Option, None, Some}
use Rattle.std.specs.Str.{bytes_eq}
use Rattle.capture_feed.specs.Numbers.{number_at}
use Rattle.capture_feed.specs.Records.{Whole, Damaged, Cut, First, Ends, Holds}
use Rattle.capture_feed.specs.declared.content.Interface.{Interface}
use Rattle.capture_feed.specs.declared.content.Content.{Content}
use Rattle.capture_feed.specs.declared.content.Content.TheVariants.{Description, Packet, Passed}

-- a section: true is highest byte first; its interfaces so far
pub record PlainSection : Type 0 where
  pub is_big : Bool
  pub interfaces : List Interface

-- ---- a block's first bytes

-- the block type of a section header, which reads the same in both orders
abbrev pub is_section_header : List ℕ → Bool
is_section_header rest = bytes_eq (take 4 rest) (0x0a ∷ 0x0d ∷ 0x0d ∷ 0x0a ∷ [])

-- the order that the byte-order magic of a section header shows
abbrev pub magic_order : List ℕ → Option Bool
magic_order rest =
    if bytes_eq (take 4 (drop 8 rest)) (0x1a ∷ 0x2b ∷ 0x3c ∷ 0x4d ∷ []) then Some true
    else if bytes_eq (take 4 (drop 8 rest)) (0x4d ∷ 0x3c ∷ 0x2b ∷ 0x1a ∷ []) then Some false
    else None

-- type and total length are there, and in a section header the byte-order magic
abbrev pub has_head : List ℕ → Bool
has_head rest = nat_le 8 (length rest) && (nat_le 12 (length rest) || not (is_section_header rest))

abbrev pub is_known : List ℕ → Bool
is_known rest = if is_section_header rest then is_some (magic_order rest) else true

-- the section of the block at the front: a section header begins a new one, in the order of its magic, or where that is unknown in the
-- order before
abbrev pub section_at : PlainSection → List ℕ → PlainSection
section_at section rest = if is_section_header rest then record { is_big = unwrap_or (magic_order rest) section.is_big; interfaces = [] } else section

-- the block total length
abbrev pub total_at : PlainSection → List ℕ → ℕ
total_at now rest = number_at now.is_big 4 4 rest

-- a multiple of 4, from 12 to 16777216
abbrev pub is_good : ℕ → Bool
is_good total = (total % 4 == 0) && (nat_le 12 total && nat_le total 16777216)

-- ---- what a sound block says, by its type; none where the type's rule doesn't hold

-- version 1
abbrev pub section_header : PlainSection → ℕ → List ℕ → Option Content
section_header now total rest = if nat_le 28 total && (number_at now.is_big 12 2 rest == 1) then Some Passed else None

-- one interface more, of 256 at most: its link type, and behind two reserved bytes its snap length
abbrev pub interface_description : PlainSection → ℕ → List ℕ → Option Content
interface_description now total rest =
    if nat_le 20 total && nat_lt (length now.interfaces) 256
    then Some (Description (record { link_type = number_at now.is_big 8 2 rest; snap_length = number_at now.is_big 12 4 rest }))
    else None

-- rounded up to a multiple of 4
abbrev pub padded : ℕ → ℕ
padded size = (size + 3) / 4 * 4

-- a packet of this interface, whose captured bytes begin so far behind the block's first: 262144 at most, and within the block. One that
-- isn't of Ethernet is passed over
abbrev pub packet_on : Interface → ℕ → ℕ → ℕ → Option Content
packet_on interface from captured total =
    if nat_lt 262144 captured || nat_lt total (padded (from + 4 + captured)) then None
    else if interface.link_type == 1 then Some (Packet from captured)
    else Some Passed

-- of this interface, if there is one
abbrev pub enhanced_on : Option Interface → ℕ → ℕ → Option Content
enhanced_on None captured total = None
enhanced_on (Some interface) captured total = packet_on interface 28 captured total

-- interface, two words of time, captured length, original length, and the captured bytes
abbrev pub enhanced_packet : PlainSection → ℕ → List ℕ → Option Content
enhanced_packet now total rest =
    if nat_lt total 32 then None else enhanced_on (slice_get now.interfaces (number_at now.is_big 8 4 rest)) (number_at now.is_big 20 4 rest) total

-- the original length, or the snap length where that is less and isn't 0
abbrev pub captured_by : ℕ → ℕ → ℕ
captured_by snap_length original = if snap_length == 0 then original else min snap_length original

abbrev pub simple_on : Option Interface → ℕ → ℕ → Option Content
simple_on None original total = None
simple_on (Some interface) original total = packet_on interface 12 (captured_by interface.snap_length original) total

-- original length, and the captured bytes; its interface is the section's first
abbrev pub simple_packet : PlainSection → ℕ → List ℕ → Option Content
simple_packet now total rest = if nat_lt total 16 then None else simple_on (slice_get now.interfaces 0) (number_at now.is_big 8 4 rest) total

-- section headers, interface descriptions (1), simple packets (3) and enhanced packets (6); every other type is passed over
abbrev pub content : PlainSection → ℕ → List ℕ → Option Content
content now total rest =
    if is_section_header rest then section_header now total rest
    else if number_at now.is_big 0 4 rest == 1 then interface_description now total rest
    else if number_at now.is_big 0 4 rest == 3 then simple_packet now total rest
    else if number_at now.is_big 0 4 rest == 6 then enhanced_packet now total rest
    else Some Passed

-- ---- blocks

-- the captured bytes of its packet
abbrev pub packet_of : Content → List ℕ → Option (List ℕ)
packet_of (Packet from captured) rest = Some (take captured (drop from rest))
packet_of (Description interface) rest = None
packet_of Passed rest = None

-- the section behind it
abbrev pub behind : PlainSection → Content → PlainSection
behind now (Description interface) = record now { interfaces = now.interfaces ++ interface ∷ [] }
behind now (Packet from captured) = now
behind now Passed = now

abbrev pub said : PlainSection → ℕ → List ℕ → Option Content → First PlainSection
said now total rest None = Ends (Damaged total)
said now total rest (Some content) = Holds total (packet_of content rest) (behind now content)

-- a block that is there whole: it is sound where its last four bytes are its total length too, and its type's rule holds
abbrev pub whole_block : PlainSection → ℕ → List ℕ → First PlainSection
whole_block now total rest =
    if number_at now.is_big (total - 4) 4 rest == total then said now total rest (content now total rest) else Ends (Damaged total)

-- the block of this section, where its first bytes are there
abbrev pub block_in : PlainSection → List ℕ → First PlainSection
block_in now rest =
    if not (is_known rest && is_good (total_at now rest)) then Ends (Damaged (total_at now rest))
    else if nat_lt (length rest) (total_at now rest) then Ends Cut
    else whole_block now (total_at now rest) rest

-- the block at the front of the rest
abbrev pub first_block : PlainSection → List ℕ → First PlainSection
first_block section rest =
    if length rest == 0 then Ends Whole
    else if not (has_head rest) then Ends Cut
    else block_in (section_at section rest) rest

-- no section yet
abbrev pub no_section : PlainSection
no_section = record { is_big = false; interfaces = [] }

-- 24 bytes that begin a file: a section header of version 1
abbrev pub is_pcapng_header : List ℕ → Bool
is_pcapng_header bytes = is_section_header bytes && (is_known bytes && (number_at (section_at no_section bytes).is_big 12 2 bytes == 1))
