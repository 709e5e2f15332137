-- The bytes of a written capture (the libpcap file format), with the lowest byte of each number first.
use Rattle.std.specs.Prelude.{◌≡◌, ℕ, ◌+◌, ◌≤◌, ◌<◌, List, [], ◌∷◌, ◌++◌, length, map, Some, ⊤}
use Rattle.byteorder.specs.Endian.{little_bytes}
use Rattle.capture_feed.specs.Records.{Whole}
use Rattle.capture_feed.specs.Captures.{records}

-- the magic number of nanoseconds, version 2.4, no time zone and no accuracy, a snap length of 65535, Ethernet
abbrev pub header_bytes : List ℕ
header_bytes = 0x4d ∷ 0x3c ∷ 0xb2 ∷ 0xa1 ∷ 2 ∷ 0 ∷ 4 ∷ 0 ∷ 0 ∷ 0 ∷ 0 ∷ 0 ∷ 0 ∷ 0 ∷ 0 ∷ 0 ∷ 0xff ∷ 0xff ∷ 0 ∷ 0 ∷ 1 ∷ 0 ∷ 0 ∷ 0 ∷ []

-- a record header: the time, the captured length and the original length, which are the same
abbrev pub record_head : ℕ → ℕ → ℕ → List ℕ
record_head seconds nanos count = little_bytes 4 seconds ++ little_bytes 4 nanos ++ little_bytes 4 count ++ little_bytes 4 count

-- the record of a whole frame
abbrev pub record_bytes : ℕ → ℕ → List ℕ → List ℕ
record_bytes seconds nanos frame = record_head seconds nanos (length frame) ++ frame

-- a frame and the time of its record
pub record Written : Type 0 where
  pub seconds : ℕ
  pub nanos : ℕ
  pub frame : List ℕ

-- the records of these frames, one behind the other
abbrev pub written_bytes : List Written → List ℕ
written_bytes [] = []
written_bytes (first ∷ more) = record_bytes first.seconds first.nanos first.frame ++ written_bytes more

-- no frame is longer than a record may be
abbrev pub AreShort : List Written → Type 0
AreShort [] = ⊤
AreShort (first ∷ more) = (length first.frame ≤ 262144) × AreShort more

-- a written capture is read back: its records are the frames that were written, and it is whole
abbrev pub WrittenReadsBack : Type 0
WrittenReadsBack = (limit : ℕ) (written : List Written) → AreShort written → 24 + length (written_bytes written) < limit →
    records (header_bytes ++ written_bytes written) limit ≡ Some (record { bodies = map (λ w. w.frame) written; stop = Whole })
