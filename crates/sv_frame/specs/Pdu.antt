-- What the APDU of a frame says (IEC 61850-9-2): how many ASDUs there are, and the elements that hold them.
use Rattle.std.specs.Prelude.{ℕ, ◌==◌, ◌&&◌, nat_le, if◌then◌else◌, List, [], ◌∷◌, length, Option, Some, None}
use Rattle.std.specs.List.{list_all}
use Rattle.byteorder.specs.Endian.{big_number}
use Rattle.ber_fields.specs.Element.{Element, ◌>>=◌}
use Rattle.sv_frame.specs.Elements.{elements}
use Rattle.sv_frame.specs.Tags as tags

-- the number of the ASDUs as it is spelled, and the bytes that hold them
pub record Parts : Type 0 where
  pub count : List ℕ
  pub sequence : List ℕ

-- the tags are those of a count and a sequence, and the number has one to four bytes
abbrev pub counted : Element → Element → Option Parts
counted number sequence =
    if number.tag == tags.asdu_count && (nat_le 1 (length number.contents)
    && (nat_le (length number.contents) 4 && (sequence.tag == tags.asdu_sequence)))
    then Some (record { count = number.contents; sequence = sequence.contents })
    else None

-- a number, maybe a security field, and a sequence
abbrev pub parts_of : List Element → Option Parts
parts_of [] = None
parts_of (number ∷ []) = None
parts_of (number ∷ sequence ∷ []) = counted number sequence
parts_of (number ∷ security ∷ sequence ∷ []) = if security.tag == tags.security then counted number sequence else None
parts_of (number ∷ security ∷ sequence ∷ more ∷ others) = None

-- the contents of the one element of this tag
abbrev pub only : ℕ → List Element → Option (List ℕ)
only tag [] = None
only tag (e ∷ []) = if e.tag == tag then Some e.contents else None
only tag (e ∷ f ∷ more) = None

-- one element of a PDU fills the APDU, and holds the parts
unfoldable pub pdu_of : List ℕ → Option Parts
pdu_of apdu = do
  outer ← elements 1 apdu
  inner ← only tags.sav_pdu outer
  parts ← elements 3 inner
  parts_of parts

-- exactly so many elements of ASDUs, and nothing else
abbrev pub sequence_of : ℕ → List ℕ → Option (List Element)
sequence_of count bytes = do
  texts ← elements count bytes
  if length texts == count && list_all (λ e. e.tag == tags.asdu) texts then Some texts else None

-- the number, read unsigned, is from 1 to 16, and the sequence holds exactly that many
abbrev pub texts_of : Parts → Option (List Element)
texts_of parts =
    let count = big_number (length parts.count) parts.count in
    if nat_le 1 count && nat_le count 16 then sequence_of count parts.sequence else None
