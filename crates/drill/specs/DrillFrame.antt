-- The bytes of a drill's frame: Ethernet, and a PDU of two sample sets in the basic encoding rules (IEC 61850-9-2;
-- ITU-T X.690).
use Rattle.std.specs.Prelude.{ℕ, ◌+◌, List, [], ◌∷◌, ◌++◌, length}
use Rattle.byteorder.specs.Endian.{big_bytes}
use Rattle.ber_fields.specs.Written.{field}
use Rattle.drill.specs.declared.slot.Slot.{Slot}
use Rattle.drill.specs.Slots.{sv_id_of}
use Rattle.drill.specs.DrillSignal.{sample_bytes}

-- svID, smpCnt, confRev 1, smpSynch 2 (global) and the sample data
unfoldable pub set_fields : Slot → ℕ → List ℕ
set_fields slot counter =
    field 0x80 (sv_id_of slot.line)
    ++ field 0x82 (big_bytes 2 counter)
    ++ field 0x83 (big_bytes 4 1)
    ++ field 0x85 (2 ∷ [])
    ++ field 0x87 (sample_bytes slot.kind counter)

-- the two sample sets
unfoldable pub sets_bytes : Slot → List ℕ
sets_bytes slot = field 0x30 (set_fields slot slot.counter) ++ field 0x30 (set_fields slot (slot.counter + 1))

-- noASDU and the sequence of the sample sets
unfoldable pub pdu_bytes : Slot → List ℕ
pdu_bytes slot = field 0x60 (field 0x80 (2 ∷ []) ++ field 0xA2 (sets_bytes slot))

abbrev pub destination : List ℕ
destination = 0x01 ∷ 0x0C ∷ 0xCD ∷ 0x04 ∷ 0x00 ∷ 0x01 ∷ []

abbrev pub source : List ℕ
source = 0x02 ∷ 0x00 ∷ 0x00 ∷ 0x00 ∷ 0x00 ∷ 0x01 ∷ []

-- Destination, source, EtherType, APPID, Length, two reserved words and the PDU. Length counts from the APPID to the
-- end.
unfoldable pub frame_bytes : Slot → List ℕ
frame_bytes slot =
    destination ++ source ++ big_bytes 2 0x88BA ++ big_bytes 2 0x4000
    ++ big_bytes 2 (length (pdu_bytes slot) + 8) ++ big_bytes 2 0 ++ big_bytes 2 0
    ++ pdu_bytes slot
