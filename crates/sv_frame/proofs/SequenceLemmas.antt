-- The ASDUs of a sequence, read one after the other.
use Rattle.std.proofs.Common.{◌≡◌, ◌≢◌, ℕ, suc, ◌<◌, Bool, true, false, cond, List, [], ◌∷◌, ◌++◌, length, Option, Some, None, refl, sym, ap, ◌∙◌, append_assoc, arith}
use Rattle.std.specs.Prelude.{◌==◌, ◌&&◌, Result, Err}
use Rattle.std.specs.List.{list_all}
use Rattle.std.proofs.lemmas.List.{append-nil}
use Rattle.std.proofs.lemmas.Bool.{eq-eqb, ne_eqb}
use Rattle.std.proofs.Math.Dec.{eqb-suc-suc, eqb-zero-suc}
use Rattle.ber_fields.specs.Element.{Element, ◌>>=◌, element_at}
use Rattle.sv_frame.specs.declared.Reason.{Reason}
use Rattle.sv_frame.specs.declared.Reason.TheVariants as reasons
use Rattle.sv_frame.specs.Elements.{elements}
use Rattle.sv_frame.specs.Asdu.{PlainAsdu, asdu_of, asdus_of}
use Rattle.sv_frame.specs.Pdu.{sequence_of}
use Rattle.sv_frame.specs.Frame.{or_bad, bad, pdu, answer as frame_of}
use Rattle.sv_frame.specs.Sequence.{asdus_in_sequence}
use Rattle.sv_frame.proofs.ElementLemmas.{next, stops, full, empty, holds}

-- the ASDUs so far and one more, unless one of them isn't one
abbrev and_one : Option (List PlainAsdu) → Option PlainAsdu → Option (List PlainAsdu)
and_one before one = before >>= λ xs. one >>= λ x. Some (xs ++ x ∷ [])

abbrev and_all : Option (List PlainAsdu) → Option (List PlainAsdu) → Option (List PlainAsdu)
and_all before later = before >>= λ xs. later >>= λ ys. Some (xs ++ ys)

abbrev answer : Option (List PlainAsdu) → Option (List Element) → Result (List PlainAsdu) Reason
answer before None = Err reasons.Count
answer before (Some texts) = or_bad reasons.Asdu (and_all before (asdus_of texts))

-- what is answered where these ASDUs came before, and so many are still to come
abbrev pub said_of : ℕ → List ℕ → Option (List PlainAsdu) → Result (List PlainAsdu) Reason
said_of left bytes before = answer before (sequence_of left bytes)

nothing_before : (read : Option (List PlainAsdu)) → and_all (Some []) read ≡ read
nothing_before (Some xs) = refl
nothing_before None = refl

starts_of : (count : ℕ) (bytes : List ℕ) (read : Option (List Element)) → sequence_of count bytes ≡ read → answer (Some []) read ≡ asdus_in_sequence count bytes
starts_of count bytes None h = rw h refl
starts_of count bytes (Some texts) h = rw h (ap (or_bad reasons.Asdu) (nothing_before (asdus_of texts)))

pub starts : (count : ℕ) (bytes : List ℕ) → said_of count bytes (Some []) ≡ asdus_in_sequence count bytes
starts count bytes = starts_of count bytes (sequence_of count bytes) refl

-- ---- one element

all_one : (before : Option (List PlainAsdu)) (one : Option PlainAsdu) (later : Option (List PlainAsdu)) → and_all before (one >>= λ x. later >>= λ ys. Some (x ∷ ys)) ≡ and_all (and_one before one) later
all_one None one later = refl
all_one (Some xs) None later = refl
all_one (Some xs) (Some x) None = refl
all_one (Some xs) (Some x) (Some ys) = ap (λ (zs : List PlainAsdu). Some zs) (simp append_assoc)

-- the ones that are read, where their number and their tags are right
abbrev counted : Bool → List Element → Option (List Element)
counted b texts = cond b (Some texts) None

in_order : (b : Bool) (before : Option (List PlainAsdu)) (e : Element) (es : List Element) → answer before (counted b (e ∷ es)) ≡ answer (and_one before (asdu_of e.contents)) (counted b es)
in_order true before e es = ap (or_bad reasons.Asdu) (all_one before (asdu_of e.contents) (asdus_of es))
in_order false before e es = refl

one_more : (left : ℕ) (before : Option (List PlainAsdu)) (e : Element) (read : Option (List Element)) → e.tag ≡ 0x30
    → answer before (read >>= (λ es. Some (e ∷ es)) >>= λ texts. counted (length texts == suc left && list_all (λ e. e.tag == 0x30) texts) texts)
    ≡ answer (and_one before (asdu_of e.contents)) (read >>= λ texts. counted (length texts == left && list_all (λ e. e.tag == 0x30) texts) texts)
one_more left before e None is = refl
one_more left before e (Some es) is = rw (eqb-suc-suc (length es) left, eq-eqb e.tag 0x30 is) (in_order (length es == left && list_all (λ e. e.tag == 0x30) es) before e es)

goes_on : (left fewer : ℕ) (bytes : List ℕ) (e : Element) (rest : List ℕ) (before : Option (List PlainAsdu)) → left ≡ suc fewer → element_at bytes ≡ Some (e, rest) → e.tag ≡ 0x30
    → said_of left bytes before ≡ said_of fewer rest (and_one before (asdu_of e.contents))
goes_on left fewer bytes e rest before k h is = rw (k, next fewer bytes e rest (holds bytes e rest h) h) (one_more fewer before e (elements fewer rest) is)

-- ---- no element of an ASDU

never : (b : Bool) (before : Option (List PlainAsdu)) (texts : List Element) → answer before (counted (b && false) texts) ≡ Err reasons.Count
never true before texts = refl
never false before texts = refl

wrong_count : (left : ℕ) (before : Option (List PlainAsdu)) (e : Element) (read : Option (List Element)) → e.tag ≢ 0x30
    → answer before (read >>= (λ es. Some (e ∷ es)) >>= λ texts. counted (length texts == suc left && list_all (λ e. e.tag == 0x30) texts) texts) ≡ Err reasons.Count
wrong_count left before e None differ = refl
wrong_count left before e (Some es) differ = rw (ne_eqb e.tag 0x30 differ) (never (length (e ∷ es) == suc left) before (e ∷ es))

pub other_tag : (left fewer : ℕ) (bytes : List ℕ) (e : Element) (rest : List ℕ) (before : Option (List PlainAsdu)) → left ≡ suc fewer → element_at bytes ≡ Some (e, rest) → e.tag ≢ 0x30
    → said_of left bytes before ≡ Err reasons.Count
other_tag left fewer bytes e rest before k h differ = rw (k, next fewer bytes e rest (holds bytes e rest h) h) (wrong_count fewer before e (elements fewer rest) differ)

breaks_at : (fewer : ℕ) (bytes : List ℕ) (before : Option (List PlainAsdu)) → element_at bytes ≡ None → said_of (suc fewer) bytes before ≡ Err reasons.Count
breaks_at fewer [] before h = rw (empty (suc fewer), eqb-zero-suc fewer) refl
breaks_at fewer (b ∷ bytes) before h = rw (stops (suc fewer) (b ∷ bytes) (omega arith) h) refl

pub breaks : (left fewer : ℕ) (bytes : List ℕ) (before : Option (List PlainAsdu)) → left ≡ suc fewer → element_at bytes ≡ None → said_of left bytes before ≡ Err reasons.Count
breaks left fewer bytes before k h = rw k (breaks_at fewer bytes before h)

-- ---- the end

pub passes : (left : ℕ) (bytes : List ℕ) (before : Option (List PlainAsdu)) → left ≡ 0 → 0 < length bytes → said_of left bytes before ≡ Err reasons.Count
passes left bytes before k some = rw (k, full bytes some) refl

nothing_later : (before : Option (List PlainAsdu)) → and_all before (Some []) ≡ before
nothing_later (Some xs) = ap (λ (ys : List PlainAsdu). Some ys) (append-nil xs)
nothing_later None = refl

pub ends : (left : ℕ) (bytes : List ℕ) (before : Option (List PlainAsdu)) → left ≡ 0 → bytes ≡ [] → said_of left bytes before ≡ or_bad reasons.Asdu before
ends left bytes before k none = rw (k, none, empty 0) (ap (or_bad reasons.Asdu) (nothing_later before))

-- the ASDUs so far, unless one of them isn't one
abbrev pub so_far : Bool → List PlainAsdu → Option (List PlainAsdu)
so_far whole xs = cond whole (Some xs) None

with_good : (whole : Bool) (xs : List PlainAsdu) (x : PlainAsdu) (one : Option PlainAsdu) → Some x ≡ one → and_one (so_far whole xs) one ≡ so_far whole (xs ++ x ∷ [])
with_good true xs x one h = rw (← h) refl
with_good false xs x one h = refl

with_bad : (whole : Bool) (xs : List PlainAsdu) (one : Option PlainAsdu) → None ≡ one → and_one (so_far whole xs) one ≡ None
with_bad true xs one h = rw (← h) refl
with_bad false xs one h = refl

-- one element further, whose ASDU is one
pub goes_good : (left fewer : ℕ) (bytes : List ℕ) (e : Element) (rest : List ℕ) (whole : Bool) (xs : List PlainAsdu) (x : PlainAsdu) (total : Result (List PlainAsdu) Reason) → left ≡ suc fewer → element_at bytes ≡ Some (e, rest) → e.tag ≡ 0x30
    → Some x ≡ asdu_of e.contents → said_of left bytes (so_far whole xs) ≡ total → said_of fewer rest (so_far whole (xs ++ x ∷ [])) ≡ total
goes_good left fewer bytes e rest whole xs x total k h is one so_said =
    ap (said_of fewer rest) (sym (with_good whole xs x (asdu_of e.contents) one)) ∙ sym (goes_on left fewer bytes e rest (so_far whole xs) k h is) ∙ so_said

-- one element further, whose ASDU isn't one
pub goes_bad : (left fewer : ℕ) (bytes : List ℕ) (e : Element) (rest : List ℕ) (whole : Bool) (xs : List PlainAsdu) (total : Result (List PlainAsdu) Reason) → left ≡ suc fewer → element_at bytes ≡ Some (e, rest) → e.tag ≡ 0x30
    → None ≡ asdu_of e.contents → said_of left bytes (so_far whole xs) ≡ total → said_of fewer rest None ≡ total
goes_bad left fewer bytes e rest whole xs total k h is one so_said =
    ap (said_of fewer rest) (sym (with_bad whole xs (asdu_of e.contents) one)) ∙ sym (goes_on left fewer bytes e rest (so_far whole xs) k h is) ∙ so_said

-- ---- a sequence of one

module _ (count : ℕ) (bytes : List ℕ) (one : count ≡ 1) where
  from_one : (read : Result (List PlainAsdu) Reason) → said_of 1 bytes (Some []) ≡ read → frame_of read ≡ frame_of (asdus_in_sequence count bytes)
  from_one read h = rw one (ap frame_of (sym h ∙ starts 1 bytes))

  pub one_breaks : element_at bytes ≡ None → bad reasons.Count ≡ frame_of (asdus_in_sequence count bytes)
  one_breaks h = from_one (Err reasons.Count) (breaks 1 0 bytes (Some []) refl h)

  module _ (e : Element) (rest : List ℕ) (h : element_at bytes ≡ Some (e, rest)) where
    pub one_other : e.tag ≢ 0x30 → bad reasons.Count ≡ frame_of (asdus_in_sequence count bytes)
    one_other differ = from_one (Err reasons.Count) (other_tag 1 0 bytes e rest (Some []) refl h differ)

    pub one_passes : e.tag ≡ 0x30 → 0 < length rest → bad reasons.Count ≡ frame_of (asdus_in_sequence count bytes)
    one_passes is some = from_one (Err reasons.Count) (goes_on 1 0 bytes e rest (Some []) refl h is ∙ passes 0 rest _ refl some)

    one_ends : e.tag ≡ 0x30 → rest ≡ [] → (read : Option PlainAsdu) → read ≡ asdu_of e.contents → frame_of (or_bad reasons.Asdu (and_one (Some []) read)) ≡ frame_of (asdus_in_sequence count bytes)
    one_ends is none read so = from_one (or_bad reasons.Asdu (and_one (Some []) read)) (goes_on 1 0 bytes e rest (Some []) refl h is ∙ (ends 0 rest _ refl none ∙ ap (λ r. or_bad reasons.Asdu (and_one (Some []) r)) (sym so)))

    pub one_good : e.tag ≡ 0x30 → rest ≡ [] → (x : PlainAsdu) → Some x ≡ asdu_of e.contents → pdu (x ∷ []) ≡ frame_of (asdus_in_sequence count bytes)
    one_good is none x so = one_ends is none (Some x) so

    pub one_bad : e.tag ≡ 0x30 → rest ≡ [] → None ≡ asdu_of e.contents → bad reasons.Asdu ≡ frame_of (asdus_in_sequence count bytes)
    one_bad is none so = one_ends is none None so
