-- The frame says its ASDUs exactly where each layer has a reading, and each reason names the first layer that has none.
use Rattle.std.proofs.Common.{◌≡◌, ℕ, ◌+◌, ◌-◌, List, length, Option, Some, None, refl, sym, subst, ◌∙◌, inl, inr}
use Rattle.std.specs.Prelude.{◌||◌, nat_lt, Result, Ok, Err, drop}
use Rattle.std.proofs.lemmas.Option.{none-some}
use Rattle.byteorder.specs.Endian.{big_number}
use Rattle.ber_fields.proofs.ElementLaws.{chosen}
use Rattle.sv_frame.specs.declared.Reason.{Reason}
use Rattle.sv_frame.specs.declared.Reason.TheVariants as reasons
use Rattle.sv_frame.specs.Asdu.{PlainAsdu, asdus_of}
use Rattle.sv_frame.specs.Pdu.{pdu_of, texts_of}
use Rattle.sv_frame.specs.Frame.{bad, pdu, ◌>>=◌, or_bad, payload_of, apdu_of, asdus_in, answer, sv_of, sv}
use Rattle.sv_frame.specs.Grammar.{IsReading, NoPdu, NoSequence, NoAsdus}
use Rattle.sv_frame.proofs.GrammarLaws.{asdus_read, asdus_again}
use Rattle.sv_frame.proofs.FrameLaws.{pdu_read, pdu_again, sequence_read, sequence_again}

-- how a layer went
data Went (A : Type 0) (r : Result A Reason) (B : Type 0) (f : A → Result B Reason) (y : Result B Reason) : Type 0 where
  on : (x : A) → r ≡ Ok x → f x ≡ y → Went A r B f y
  off : (reason : Reason) → r ≡ Err reason → Err reason ≡ y → Went A r B f y

went : {A B : Type 0} (r : Result A Reason) (f : A → Result B Reason) (y : Result B Reason) → (r >>= f) ≡ y → Went A r B f y
went (Ok x) f y h = on x refl h
went (Err reason) f y h = off reason refl h

or_bad_ok : {A : Type 0} (reason : Reason) (o : Option A) (x : A) → or_bad reason o ≡ Ok x → o ≡ Some x
or_bad_ok reason (Some y) x h = cc
or_bad_ok reason None x h = absurd cc

record IsOff {A : Type 0} (reason said : Reason) (o : Option A) : Type 0 where
  none : o ≡ None
  same : said ≡ reason

or_bad_err : {A : Type 0} (reason said : Reason) (o : Option A) → or_bad reason o ≡ Err said → IsOff reason said o
or_bad_err reason said (Some y) h = absurd cc
or_bad_err reason said None h = record { none = refl; same = cc }

answer_ok : (r : Result (List PlainAsdu) Reason) (xs : List PlainAsdu) → answer r ≡ pdu xs → r ≡ Ok xs
answer_ok (Ok ys) xs h = cc
answer_ok (Err e) xs h = absurd cc

answer_err : (r : Result (List PlainAsdu) Reason) (reason : Reason) → answer r ≡ bad reason → r ≡ Err reason
answer_err (Ok ys) reason h = absurd cc
answer_err (Err e) reason h = cc

-- the payload of a frame that isn't other traffic
record Kind (frame : List ℕ) (captured : ℕ) (said : Result (List PlainAsdu) Reason) : Type 0 where
  payload : List ℕ
  kind : payload_of frame ≡ Some payload
  is : asdus_in (length frame - length payload) captured payload ≡ said

kind_ok : (frame : List ℕ) (captured : ℕ) (xs : List PlainAsdu) (o : Option (List ℕ)) → payload_of frame ≡ o → sv_of frame captured o ≡ pdu xs → Kind frame captured (Ok xs)
kind_ok frame captured xs None k h = absurd cc
kind_ok frame captured xs (Some payload) k h = record { payload = payload; kind = k; is = answer_ok _ xs h }

kind_err : (frame : List ℕ) (captured : ℕ) (reason : Reason) (o : Option (List ℕ)) → payload_of frame ≡ o → sv_of frame captured o ≡ bad reason → Kind frame captured (Err reason)
kind_err frame captured reason None k h = absurd cc
kind_err frame captured reason (Some payload) k h = record { payload = payload; kind = k; is = answer_err _ reason h }

pub reading_read : (frame : List ℕ) (captured : ℕ) (xs : List PlainAsdu) → sv frame captured ≡ pdu xs → IsReading frame captured xs
unfolding sv asdus_in
reading_read frame captured xs h =
    let k = kind_ok frame captured xs (payload_of frame) refl h in
    elim (went (apdu_of (length frame - length k.payload) captured k.payload) _ (Ok xs) k.is) [
      | on apdu a h1 ↦ elim (went (or_bad reasons.Pdu (pdu_of apdu)) _ (Ok xs) h1) [
        | on parts p h2 ↦ elim (went (or_bad reasons.Count (texts_of parts)) _ (Ok xs) h2) [
          | on texts t h3 ↦ record {
            apdu = apdu;
            parts = parts;
            texts = texts;
            is_apdu = record { payload = k.payload; kind = k.kind; words = a };
            is_pdu = pdu_read apdu parts (or_bad_ok reasons.Pdu (pdu_of apdu) parts p);
            is_sequence = sequence_read parts texts (or_bad_ok reasons.Count (texts_of parts) texts t);
            are_asdus = asdus_read texts xs (or_bad_ok reasons.Asdu (asdus_of texts) xs h3);
          }
          | off r e w ↦ absurd cc
        ]
        | off r e w ↦ absurd cc
      ]
      | off r e w ↦ absurd cc
    ]

pub reading_again : (frame : List ℕ) (captured : ℕ) (xs : List PlainAsdu) → IsReading frame captured xs → sv frame captured ≡ pdu xs
unfolding sv asdus_in
reading_again frame captured xs h =
    rw (h.is_apdu.kind, h.is_apdu.words, pdu_again h.apdu h.parts h.is_pdu, sequence_again h.parts h.texts h.is_sequence, asdus_again h.texts xs h.are_asdus) refl

none_is : {A : Type 0} (o : Option A) → ((x : A) → o ≡ Some x → ⊥) → o ≡ None
none_is (Some x) h = absurd (h x refl)
none_is None h = refl

pub no_pdu_again : (frame : List ℕ) (captured : ℕ) → NoPdu frame captured → sv frame captured ≡ bad reasons.Pdu
unfolding sv asdus_in
no_pdu_again frame captured h =
    rw (h.is_apdu.kind, h.is_apdu.words, none_is (pdu_of h.apdu) (λ parts e. h.none parts (pdu_read h.apdu parts e))) refl

pub no_sequence_again : (frame : List ℕ) (captured : ℕ) → NoSequence frame captured → sv frame captured ≡ bad reasons.Count
unfolding sv asdus_in
no_sequence_again frame captured h =
    rw (h.is_apdu.kind, h.is_apdu.words, pdu_again h.apdu h.parts h.is_pdu, none_is (texts_of h.parts) (λ texts e. h.none texts (sequence_read h.parts texts e))) refl

pub no_asdus_again : (frame : List ℕ) (captured : ℕ) → NoAsdus frame captured → sv frame captured ≡ bad reasons.Asdu
unfolding sv asdus_in
no_asdus_again frame captured h =
    rw (h.is_apdu.kind, h.is_apdu.words, pdu_again h.apdu h.parts h.is_pdu, sequence_again h.parts h.texts h.is_sequence, none_is (asdus_of h.texts) (λ xs e. h.none xs (asdus_read h.texts xs e))) refl

pub one_reading : (frame : List ℕ) (captured : ℕ) (xs ys : List PlainAsdu) → IsReading frame captured xs → IsReading frame captured ys → xs ≡ ys
one_reading frame captured xs ys h k = let e = sym (reading_again frame captured xs h) ∙ reading_again frame captured ys k in cc

-- ---- each reason names the first layer without a reading

abbrev pub IsEarly : Reason → Type 0
IsEarly reasons.Header = Unit {0}
IsEarly reasons.Length = Unit {0}
IsEarly reasons.Long = Unit {0}
IsEarly reasons.Pdu = ⊥
IsEarly reasons.Count = ⊥
IsEarly reasons.Asdu = ⊥

same_err : (r s : Reason) → ◌≡◌ {A = Result (List ℕ) Reason} (Err r) (Err s) → r ≡ s
same_err r s h = cc

same_said : (r s : Reason) → ◌≡◌ {A = Result (List PlainAsdu) Reason} (Err r) (Err s) → r ≡ s
same_said r s h = cc

is_early : (before captured : ℕ) (payload : List ℕ) (reason : Reason) → apdu_of before captured payload ≡ Err reason → IsEarly reason
is_early before captured payload reason h =
    let said : Result (List ℕ) Reason = Err reason in
    elim (chosen (nat_lt (length payload) 8) (Err reasons.Header) _ said h) [
      | inl p ↦ subst IsEarly (same_err reasons.Header reason p.1) tt
      | inr p ↦ elim (chosen (nat_lt (big_number 2 (drop 2 payload)) 8 || nat_lt captured (before + big_number 2 (drop 2 payload))) (Err reasons.Length) _ said p.1) [
        | inl q ↦ subst IsEarly (same_err reasons.Length reason q.1) tt
        | inr q ↦ elim (chosen (nat_lt 2048 captured) (Err reasons.Long) _ said q.1) [
          | inl r ↦ subst IsEarly (same_err reasons.Long reason r.1) tt
          | inr r ↦ absurd cc
        ]
      ]
    ]

not_early : (reason r : Reason) → IsEarly r → (IsEarly reason → ⊥) → ◌≡◌ {A = Result (List PlainAsdu) Reason} (Err r) (Err reason) → ⊥
not_early reason r early late w = late (subst IsEarly (same_said r reason w) early)

pub no_pdu_read : (frame : List ℕ) (captured : ℕ) → sv frame captured ≡ bad reasons.Pdu → NoPdu frame captured
unfolding sv asdus_in
no_pdu_read frame captured h =
    let k = kind_err frame captured reasons.Pdu (payload_of frame) refl h in
    let before : ℕ = length frame - length k.payload in
    elim (went (apdu_of before captured k.payload) _ (Err reasons.Pdu) k.is) [
      | on apdu a h1 ↦ elim (went (or_bad reasons.Pdu (pdu_of apdu)) _ (Err reasons.Pdu) h1) [
        | on parts p h2 ↦ elim (went (or_bad reasons.Count (texts_of parts)) _ (Err reasons.Pdu) h2) [
          | on texts t h3 ↦ let o = or_bad_err reasons.Asdu reasons.Pdu (asdus_of texts) h3 in absurd cc
          | off r e w ↦ let o = or_bad_err reasons.Count r (texts_of parts) e in absurd cc
        ]
        | off r e w ↦
            let o = or_bad_err reasons.Pdu r (pdu_of apdu) e in
            record {
              apdu = apdu;
              is_apdu = record { payload = k.payload; kind = k.kind; words = a };
              none = λ parts is. none-some parts (sym o.none ∙ pdu_again apdu parts is);
            }
      ]
      | off r e w ↦ absurd (not_early reasons.Pdu r (is_early before captured k.payload r e) (λ x. x) w)
    ]

pub no_sequence_read : (frame : List ℕ) (captured : ℕ) → sv frame captured ≡ bad reasons.Count → NoSequence frame captured
unfolding sv asdus_in
no_sequence_read frame captured h =
    let k = kind_err frame captured reasons.Count (payload_of frame) refl h in
    let before : ℕ = length frame - length k.payload in
    elim (went (apdu_of before captured k.payload) _ (Err reasons.Count) k.is) [
      | on apdu a h1 ↦ elim (went (or_bad reasons.Pdu (pdu_of apdu)) _ (Err reasons.Count) h1) [
        | on parts p h2 ↦ elim (went (or_bad reasons.Count (texts_of parts)) _ (Err reasons.Count) h2) [
          | on texts t h3 ↦ let o = or_bad_err reasons.Asdu reasons.Count (asdus_of texts) h3 in absurd cc
          | off r e w ↦
              let o = or_bad_err reasons.Count r (texts_of parts) e in
              record {
                apdu = apdu;
                parts = parts;
                is_apdu = record { payload = k.payload; kind = k.kind; words = a };
                is_pdu = pdu_read apdu parts (or_bad_ok reasons.Pdu (pdu_of apdu) parts p);
                none = λ texts is. none-some texts (sym o.none ∙ sequence_again parts texts is);
              }
        ]
        | off r e w ↦ let o = or_bad_err reasons.Pdu r (pdu_of apdu) e in absurd cc
      ]
      | off r e w ↦ absurd (not_early reasons.Count r (is_early before captured k.payload r e) (λ x. x) w)
    ]

pub no_asdus_read : (frame : List ℕ) (captured : ℕ) → sv frame captured ≡ bad reasons.Asdu → NoAsdus frame captured
unfolding sv asdus_in
no_asdus_read frame captured h =
    let k = kind_err frame captured reasons.Asdu (payload_of frame) refl h in
    let before : ℕ = length frame - length k.payload in
    elim (went (apdu_of before captured k.payload) _ (Err reasons.Asdu) k.is) [
      | on apdu a h1 ↦ elim (went (or_bad reasons.Pdu (pdu_of apdu)) _ (Err reasons.Asdu) h1) [
        | on parts p h2 ↦ elim (went (or_bad reasons.Count (texts_of parts)) _ (Err reasons.Asdu) h2) [
          | on texts t h3 ↦
              let o = or_bad_err reasons.Asdu reasons.Asdu (asdus_of texts) h3 in
              record {
                apdu = apdu;
                parts = parts;
                texts = texts;
                is_apdu = record { payload = k.payload; kind = k.kind; words = a };
                is_pdu = pdu_read apdu parts (or_bad_ok reasons.Pdu (pdu_of apdu) parts p);
                is_sequence = sequence_read parts texts (or_bad_ok reasons.Count (texts_of parts) texts t);
                none = λ xs is. none-some xs (sym o.none ∙ asdus_again texts xs is);
              }
          | off r e w ↦ let o = or_bad_err reasons.Count r (texts_of parts) e in absurd cc
        ]
        | off r e w ↦ let o = or_bad_err reasons.Pdu r (pdu_of apdu) e in absurd cc
      ]
      | off r e w ↦ absurd (not_early reasons.Asdu r (is_early before captured k.payload r e) (λ x. x) w)
    ]
