-- What an ASDU says (IEC 61850-9-2): one sample set, with its name, counter, configuration revision and clock.
use Rattle.std.specs.Prelude.{ℕ, ◌+◌, Bool, true, ◌==◌, ◌&&◌, nat_le, if◌then◌else◌, List, [], ◌∷◌, length, filter, find, map, Option, Some, None}
use Rattle.byteorder.specs.Endian.{big_number}
use Rattle.ber_fields.specs.Element.{Element, ◌>>=◌}
use Rattle.sv_frame.specs.declared.lent.Asdu.{Asdu}
use Rattle.sv_frame.specs.Elements.{elements}
use Rattle.sv_frame.specs.Tags as tags

-- one ASDU, wherever it lies in the frame
pub record PlainAsdu : Type 0 where
  pub sv_id : List ℕ
  pub counter : ℕ
  pub conf_rev : ℕ
  pub synch : ℕ
  pub samples : List ℕ

-- the ASDU that is lent from a frame, as plain data
abbrev pub plain_asdu : Asdu → PlainAsdu
plain_asdu asdu = record { sv_id = asdu.sv_id.now; counter = asdu.counter; conf_rev = asdu.conf_rev; synch = asdu.synch; samples = asdu.samples.now }

abbrev pub plain_asdus : List Asdu → List PlainAsdu
plain_asdus asdus = map plain_asdu asdus

-- the fields with the tags that an ASDU knows, wherever others stand
abbrev pub known : List Element → List Element
known fields = filter (λ f. nat_le f.tag tags.last_field) fields

-- the tags are at least `low`, and each is above the one before
abbrev pub is_rising : ℕ → List Element → Bool
is_rising low [] = true
is_rising low (f ∷ fields) = nat_le low f.tag && is_rising (f.tag + 1) fields

abbrev pub contents_of : ℕ → List Element → Option (List ℕ)
contents_of tag fields = do
  field ← find (λ f. f.tag == tag) fields
  Some field.contents

-- contents of this length
abbrev pub sized : ℕ → ℕ → List Element → Option (List ℕ)
sized size tag fields = do
  bytes ← contents_of tag fields
  if length bytes == size then Some bytes else None

-- The required fields say it: svID, smpCnt, confRev, smpSynch and the sample data. The others are passed over.
unfoldable pub asdu_from : List Element → Option PlainAsdu
asdu_from fields = if is_rising tags.first_field (known fields)
    then (do
      sv_id ← contents_of tags.sv_id fields
      counter ← sized 2 tags.counter fields
      conf_rev ← sized 4 tags.conf_rev fields
      synch ← sized 1 tags.synch fields
      samples ← contents_of tags.samples fields
      Some (record { sv_id = sv_id; counter = big_number 2 counter; conf_rev = big_number 4 conf_rev; synch = big_number 1 synch; samples = samples }))
    else None

-- at most 16 fields that fill the bytes
abbrev pub asdu_of : List ℕ → Option PlainAsdu
asdu_of bytes = do
  fields ← elements 16 bytes
  asdu_from fields

-- every one of them
abbrev pub asdus_of : List Element → Option (List PlainAsdu)
asdus_of [] = Some []
asdus_of (text ∷ texts) = do
  first ← asdu_of text.contents
  others ← asdus_of texts
  Some (first ∷ others)
