-- The grammar of a frame, over whole lists of bytes and of elements. `sv` reads it; no position stands here.
use Rattle.std.specs.Prelude.{◌≡◌, ℕ, ◌≤◌, ◌-◌, ◌⊎◌, true, List, [], ◌∷◌, ◌++◌, length, Some, Ok}
use Rattle.std.specs.List.{AllByRecursion}
use Rattle.byteorder.specs.Endian.{big_number}
use Rattle.ber_fields.specs.Element.{Element, element}
use Rattle.sv_frame.specs.Elements.{SpellAll}
use Rattle.sv_frame.specs.Tags as tags
use Rattle.sv_frame.specs.Asdu.{PlainAsdu, known, is_rising}
use Rattle.sv_frame.specs.Pdu.{Parts}
use Rattle.sv_frame.specs.Frame.{payload_of, apdu_of}

-- one of them
abbrev pub Has : List Element → Element → Type 0
Has [] e = ⊥
Has (f ∷ fields) e = (f ≡ e) ⊎ Has fields e

-- a field of this tag has so many bytes that make the number
abbrev pub HasNumber : ℕ → ℕ → List Element → ℕ → Type 0
HasNumber size tag fields n = (bytes : List ℕ) × Has fields (element tag bytes) × (length bytes ≡ size) × (n ≡ big_number size bytes)

-- The fields say this: those with known tags rise from the least on, so each comes once, and the required ones are there.
pub record FieldsSay (fields : List Element) (x : PlainAsdu) : Type 0 where
  pub rises : is_rising tags.first_field (known fields) ≡ true
  pub sv_id : Has fields (element tags.sv_id x.sv_id)
  pub counter : HasNumber 2 tags.counter fields x.counter
  pub conf_rev : HasNumber 4 tags.conf_rev fields x.conf_rev
  pub synch : HasNumber 1 tags.synch fields x.synch
  pub samples : Has fields (element tags.samples x.samples)

-- The bytes are at most 16 fields that say this.
pub record IsAsdu (bytes : List ℕ) (x : PlainAsdu) : Type 0 where
  pub fields : List Element
  pub whole : SpellAll bytes fields
  pub few : length fields ≤ 16
  pub says : FieldsSay fields x

abbrev pub AreAsdus : List Element → List PlainAsdu → Type 0
AreAsdus [] [] = Unit {0}
AreAsdus [] (x ∷ xs) = ⊥
AreAsdus (text ∷ texts) [] = ⊥
AreAsdus (text ∷ texts) (x ∷ xs) = IsAsdu text.contents x × AreAsdus texts xs

-- a number of 1 to 4 bytes, maybe a security field, and a sequence
pub record AreParts (fields : List Element) (parts : Parts) : Type 0 where
  pub least : 1 ≤ length parts.count
  pub most : length parts.count ≤ 4
  pub are : (fields ≡ element tags.asdu_count parts.count ∷ element tags.asdu_sequence parts.sequence ∷ [])
      ⊎ ((security : List ℕ) × (fields ≡ element tags.asdu_count parts.count ∷ element tags.security security
      ∷ element tags.asdu_sequence parts.sequence ∷ []))

-- The bytes are one element, and what it holds are these parts.
pub record IsPdu (apdu : List ℕ) (parts : Parts) : Type 0 where
  pub inner : List ℕ
  pub whole : SpellAll apdu (element tags.sav_pdu inner ∷ [])
  pub fields : List Element
  pub holds : SpellAll inner fields
  pub are_parts : AreParts fields parts

-- The sequence is as many elements of ASDUs as the number says, from 1 to 16.
pub record IsSequence (parts : Parts) (texts : List Element) : Type 0 where
  pub number : length texts ≡ big_number (length parts.count) parts.count
  pub least : 1 ≤ length texts
  pub most : length texts ≤ 16
  pub whole : SpellAll parts.sequence texts
  pub tags : AllByRecursion (λ e. e.tag ≡ tags.asdu) texts

-- Six bytes for the destination, six for the source, maybe a tag of a virtual network, the EtherType, and the payload.
pub record IsKind (frame payload : List ℕ) : Type 0 where
  pub addresses : List ℕ
  pub tag : List ℕ
  pub long : length addresses ≡ 12
  pub optional : (tag ≡ []) ⊎ ((x y : ℕ) × (tag ≡ 0x81 ∷ 0 ∷ x ∷ y ∷ []))
  pub whole : frame ≡ addresses ++ (tag ++ (0x88 ∷ 0xba ∷ payload))

-- the APDU of a frame of sampled values
pub record IsApdu (frame : List ℕ) (captured : ℕ) (apdu : List ℕ) : Type 0 where
  pub payload : List ℕ
  pub kind : payload_of frame ≡ Some payload
  pub words : apdu_of (length frame - length payload) captured payload ≡ Ok apdu

-- Each layer has a reading, and the ASDUs are those of it.
pub record IsReading (frame : List ℕ) (captured : ℕ) (samples : List PlainAsdu) : Type 0 where
  pub apdu : List ℕ
  pub parts : Parts
  pub texts : List Element
  pub is_apdu : IsApdu frame captured apdu
  pub is_pdu : IsPdu apdu parts
  pub is_sequence : IsSequence parts texts
  pub are_asdus : AreAsdus texts samples

-- The layers before have a reading, and this one has none.
pub record NoPdu (frame : List ℕ) (captured : ℕ) : Type 0 where
  pub apdu : List ℕ
  pub is_apdu : IsApdu frame captured apdu
  pub none : (parts : Parts) → IsPdu apdu parts → ⊥

pub record NoSequence (frame : List ℕ) (captured : ℕ) : Type 0 where
  pub apdu : List ℕ
  pub parts : Parts
  pub is_apdu : IsApdu frame captured apdu
  pub is_pdu : IsPdu apdu parts
  pub none : (texts : List Element) → IsSequence parts texts → ⊥

pub record NoAsdus (frame : List ℕ) (captured : ℕ) : Type 0 where
  pub apdu : List ℕ
  pub parts : Parts
  pub texts : List Element
  pub is_apdu : IsApdu frame captured apdu
  pub is_pdu : IsPdu apdu parts
  pub is_sequence : IsSequence parts texts
  pub none : (samples : List PlainAsdu) → AreAsdus texts samples → ⊥
