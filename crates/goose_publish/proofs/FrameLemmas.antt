-- Where the parts of a frame lie, and that its Length and its PDU end with it.
use Rattle.std.proofs.Common.{◌≡◌, ◌≤◌, ◌<◌, ℕ, ◌+◌, ◌*◌, List, [], ◌++◌, length, drop, refl, sym, ap, ◌∙◌, append_assoc, arith, lit≤, inl, inr}
use Rattle.std.proofs.lemmas.Bool.{cases_lt, lt-ltb, le-ltb}
use Rattle.std.proofs.lemmas.List.{drop_at, length-append, append-nil}
use Rattle.byteorder.specs.Endian.{big_bytes, big_number}
use Rattle.ber_fields.specs.Element.{element_at}
use Rattle.ber_fields.specs.Written.{field, head_text}
use Rattle.ber_fields.proofs.WrittenLaws.{written_is_read}
use Rattle.relay_settings.specs.declared.types.Common.{Common}
use Rattle.relay_settings.specs.Settings.{PlainGoose}
use Rattle.goose_publish.specs.declared.points.Send.{Send}
use Rattle.goose_publish.specs.GooseFrame.{fields_bytes, pdu_bytes, frame_bytes}
use Rattle.goose_publish.specs.FrameEnds.{EndsAtItsLength}

-- a head has four bytes at most
short_head : (n : ℕ) → length (head_text 0x61 n) ≤ 4
short_head n = elim (cases_lt n 128) [
  | inl lt ↦ rw (lt-ltb n 128 lt) (lit≤ tt)
  | inr le ↦ elim (cases_lt n 256) [
    | inl lt ↦ rw (le-ltb n 128 le, lt-ltb n 256 lt) (lit≤ tt)
    | inr more ↦ rw (le-ltb n 128 le, le-ltb n 256 more) (lit≤ tt)
  ]
]

-- a frame with the words a, b, c and d up to the APPID, and n as its Length
module _ (dst src : List ℕ) (six : length dst ≡ 6) (six_more : length src ≡ 6) (a b c d n : ℕ) (fields : List ℕ) where
  abbrev pub pdu : List ℕ
  pdu = field 0x61 fields

  abbrev pub whole : List ℕ
  whole =
      dst ++ src ++ big_bytes 2 a ++ big_bytes 2 b ++ big_bytes 2 c ++ big_bytes 2 d
      ++ big_bytes 2 n ++ big_bytes 2 0 ++ big_bytes 2 0 ++ pdu

  abbrev front : List ℕ
  front = dst ++ src ++ big_bytes 2 a ++ big_bytes 2 b ++ big_bytes 2 c

  abbrev behind : List ℕ
  behind = big_bytes 2 n ++ (big_bytes 2 0 ++ (big_bytes 2 0 ++ pdu))

  parted_at_appid : whole ≡ front ++ (big_bytes 2 d ++ behind)
  parted_at_appid = simp append_assoc refl

  from_appid : drop 18 whole ≡ big_bytes 2 d ++ behind
  from_appid =
      ap (drop 18) parted_at_appid ∙ drop_at front (big_bytes 2 d ++ behind) 18 (simp length-append (omega arith))

  parted_at_length : whole ≡ (front ++ big_bytes 2 d) ++ behind
  parted_at_length = simp append_assoc refl

  from_length : drop 20 whole ≡ behind
  from_length =
      ap (drop 20) parted_at_length ∙ drop_at (front ++ big_bytes 2 d) behind 20 (simp length-append (omega arith))

  from_pdu : drop 26 whole ≡ pdu
  from_pdu =
      drop_at (front ++ big_bytes 2 d ++ big_bytes 2 n ++ big_bytes 2 0 ++ big_bytes 2 0) pdu 26
      (simp length-append (omega arith))

  two_bytes : n < 65536 → big_number 2 behind ≡ n
  two_bytes small = omega arith

  pub ends_at_its_length : n ≡ length pdu + 8 → length fields ≤ 600 → EndsAtItsLength fields whole
  ends_at_its_length counted small =
      let head = short_head (length fields) in
      let pdu_long = length-append (head_text 0x61 (length fields)) fields in
      record {
        counts =
            ap (big_number 2) from_length ∙ two_bytes (omega (arith, counted, pdu_long, head))
            ∙ counted ∙ sym (ap length from_appid ∙ omega arith);
        pdu =
            ap element_at (from_pdu ∙ sym (append-nil pdu))
            ∙ written_is_read 0x61 fields [] (λ e. omega arith) (omega arith);
      }

pub frame_ends : (common : Common) (goose : PlainGoose) (send : Send) →
    length goose.dst ≡ 6 → length goose.src ≡ 6 → length (fields_bytes common goose send) ≤ 600 →
    EndsAtItsLength (fields_bytes common goose send) (frame_bytes common goose send)
unfolding frame_bytes
frame_ends common goose send dst src small =
    ends_at_its_length goose.dst goose.src dst src
    0x8100 (goose.vlan_priority * 8192 + goose.vlan_id) 0x88B8 goose.appid (length (pdu_bytes common goose send) + 8)
    (fields_bytes common goose send) refl small
