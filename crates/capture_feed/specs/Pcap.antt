-- A pcap file (the libpcap file format): a header of 24 bytes, and records, each with a header of 16 bytes.
use Rattle.std.specs.Prelude.{ℕ, ◌+◌, Bool, true, false, ◌&&◌, ◌||◌, nat_le, nat_lt, ◌==◌, if◌then◌else◌, List, [], ◌∷◌, length, take, drop, slice_range, Option, None, Some}
use Rattle.std.specs.Str.{bytes_eq}
use Rattle.capture_feed.specs.Numbers.{number_at}
use Rattle.capture_feed.specs.Records.{Whole, Damaged, Cut, First, Ends, Holds}

-- the versions are 2 and 4, and the low 16 bits of the link type are 1
abbrev pub are_fields : Bool → List ℕ → Bool
are_fields true bytes = bytes_eq (slice_range bytes 4 8) (0 ∷ 2 ∷ 0 ∷ 4 ∷ []) && bytes_eq (slice_range bytes 22 24) (0 ∷ 1 ∷ [])
are_fields false bytes = bytes_eq (slice_range bytes 4 8) (2 ∷ 0 ∷ 4 ∷ 0 ∷ []) && bytes_eq (slice_range bytes 20 22) (1 ∷ 0 ∷ [])

-- 0xA1B2C3D4 for microseconds or 0xA1B23C4D for nanoseconds, highest byte first
abbrev pub is_big_magic : List ℕ → Bool
is_big_magic magic = bytes_eq magic (0xa1 ∷ 0xb2 ∷ 0xc3 ∷ 0xd4 ∷ []) || bytes_eq magic (0xa1 ∷ 0xb2 ∷ 0x3c ∷ 0x4d ∷ [])

-- the same, lowest byte first
abbrev pub is_little_magic : List ℕ → Bool
is_little_magic magic = bytes_eq magic (0xd4 ∷ 0xc3 ∷ 0xb2 ∷ 0xa1 ∷ []) || bytes_eq magic (0x4d ∷ 0x3c ∷ 0xb2 ∷ 0xa1 ∷ [])

-- the byte order of these 24 bytes of header, true for highest byte first; none where they are none
abbrev pub pcap_order : List ℕ → Option Bool
pcap_order bytes =
    if is_big_magic (slice_range bytes 0 4) && are_fields true bytes then Some true
    else if is_little_magic (slice_range bytes 0 4) && are_fields false bytes then Some false
    else None

-- the captured length in the record header at the front
abbrev pub captured : Bool → List ℕ → ℕ
captured is_big rest = number_at is_big 8 4 rest

-- the captured bytes of the record at the front
abbrev pub body : Bool → List ℕ → List ℕ
body is_big rest = take (captured is_big rest) (drop 16 rest)

-- the record at the front of the rest: a captured length above 262144 is damage, and a file that ends within a record is cut
abbrev pub first_record : Bool → List ℕ → First Bool
first_record is_big rest =
    if length rest == 0 then Ends Whole
    else if nat_le 16 (length rest) && nat_lt 262144 (captured is_big rest) then Ends (Damaged (captured is_big rest))
    else if nat_lt (length rest) (16 + captured is_big rest) then Ends Cut
    else Holds (16 + captured is_big rest) (Some (body is_big rest)) is_big
