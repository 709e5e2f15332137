-- The elements of a PDU, by their heads.
use Rattle.std.proofs.Common.{◌≡◌, ◌≢◌, ℕ, suc, ◌<◌, List, [], ◌∷◌, length, Option, Some, None, refl, ap, ◌∙◌, arith}
use Rattle.std.proofs.lemmas.Bool.{eq-eqb, ne_eqb}
use Rattle.ber_fields.specs.Element.{Element, element, ◌>>=◌, element_at}
use Rattle.sv_frame.specs.Elements.{elements}
use Rattle.sv_frame.specs.Pdu.{counted, pdu_of}
use Rattle.sv_frame.specs.Enclosed.{only_in, parts_in}
use Rattle.sv_frame.proofs.ElementLemmas.{next, stops, full, empty, holds}

-- ---- the one element

pub only_none : (tag : ℕ) (bytes : List ℕ) → element_at bytes ≡ None → only_in tag bytes ≡ None
only_none tag [] h = rw (empty 1) refl
only_none tag (b ∷ bytes) h = rw (stops 1 (b ∷ bytes) (omega arith) h) refl

-- an element, and how many follow it
then : (most : ℕ) (bytes : List ℕ) (e : Element) (rest : List ℕ) (es : Option (List Element)) → element_at bytes ≡ Some (e, rest) → elements most rest ≡ es → elements (suc most) bytes ≡ (es >>= λ others. Some (e ∷ others))
then most bytes e rest es h k = next most bytes e rest (holds bytes e rest h) h ∙ rw k refl

last : (most : ℕ) (rest : List ℕ) → rest ≡ [] → elements most rest ≡ Some []
last most rest none = ap (elements most) none ∙ empty most

pub only_one : (tag : ℕ) (bytes : List ℕ) (e : Element) (rest : List ℕ) → element_at bytes ≡ Some (e, rest) → rest ≡ [] → e.tag ≡ tag → only_in tag bytes ≡ Some e.contents
only_one tag bytes e rest h none is = rw (then 0 bytes e rest _ h (last 0 rest none), eq-eqb e.tag tag is) refl

pub only_more : (tag : ℕ) (bytes : List ℕ) (e : Element) (rest : List ℕ) → element_at bytes ≡ Some (e, rest) → 0 < length rest → only_in tag bytes ≡ None
only_more tag bytes e rest h some = rw (then 0 bytes e rest _ h (full rest some)) refl

pub only_other : (tag : ℕ) (bytes : List ℕ) (e : Element) (rest : List ℕ) → element_at bytes ≡ Some (e, rest) → e.tag ≢ tag → only_in tag bytes ≡ None
only_other tag bytes e [] h differ = rw (then 0 bytes e [] _ h (empty 0), ne_eqb e.tag tag differ) refl
only_other tag bytes e (b ∷ rest) h differ = only_more tag bytes e (b ∷ rest) h (omega arith)

-- ---- two or three

pub parts_none : (bytes : List ℕ) → element_at bytes ≡ None → parts_in bytes ≡ None
parts_none [] h = rw (empty 3) refl
parts_none (b ∷ bytes) h = rw (stops 3 (b ∷ bytes) (omega arith) h) refl

pub parts_one : (bytes : List ℕ) (e : Element) (rest : List ℕ) → element_at bytes ≡ Some (e, rest) → element_at rest ≡ None → parts_in bytes ≡ None
parts_one bytes e [] h k = rw (then 2 bytes e [] _ h (empty 2)) refl
parts_one bytes e (b ∷ rest) h k = rw (then 2 bytes e (b ∷ rest) _ h (stops 2 (b ∷ rest) (omega arith) k)) refl

pub parts_two : (bytes : List ℕ) (e f : Element) (rest more : List ℕ) → element_at bytes ≡ Some (e, rest) → element_at rest ≡ Some (f, more) → more ≡ [] → parts_in bytes ≡ counted e f
parts_two bytes e f rest more h k none = rw (then 2 bytes e rest _ h (then 1 rest f more _ k (last 1 more none))) refl

pub parts_cut : (bytes : List ℕ) (e f : Element) (rest more : List ℕ) → element_at bytes ≡ Some (e, rest) → element_at rest ≡ Some (f, more) → 0 < length more → element_at more ≡ None → parts_in bytes ≡ None
parts_cut bytes e f rest more h k some none = rw (then 2 bytes e rest _ h (then 1 rest f more _ k (stops 1 more some none))) refl

pub parts_more : (bytes : List ℕ) (e f g : Element) (rest more end : List ℕ) → element_at bytes ≡ Some (e, rest) → element_at rest ≡ Some (f, more) → element_at more ≡ Some (g, end) → 0 < length end → parts_in bytes ≡ None
parts_more bytes e f g rest more end h k l some = rw (then 2 bytes e rest _ h (then 1 rest f more _ k (then 0 more g end _ l (full end some)))) refl

pub parts_three : (bytes : List ℕ) (e f g : Element) (rest more end : List ℕ) → element_at bytes ≡ Some (e, rest) → element_at rest ≡ Some (f, more) → element_at more ≡ Some (g, end) → end ≡ [] → f.tag ≡ 0x81 → parts_in bytes ≡ counted e g
parts_three bytes e f g rest more end h k l none is = rw (then 2 bytes e rest _ h (then 1 rest f more _ k (then 0 more g end _ l (last 0 end none))), eq-eqb f.tag 0x81 is) refl

pub parts_other : (bytes : List ℕ) (e f g : Element) (rest more end : List ℕ) → element_at bytes ≡ Some (e, rest) → element_at rest ≡ Some (f, more) → element_at more ≡ Some (g, end) → f.tag ≢ 0x81 → parts_in bytes ≡ None
parts_other bytes e f g rest more [] h k l differ = rw (then 2 bytes e rest _ h (then 1 rest f more _ k (then 0 more g [] _ l (empty 0))), ne_eqb f.tag 0x81 differ) refl
parts_other bytes e f g rest more (b ∷ end) h k l differ = parts_more bytes e f g rest more (b ∷ end) h k l (omega arith)

-- ---- the usual form

pub usual_parts : (apdu inner count sequence rest mid end : List ℕ) → element_at apdu ≡ Some (element 0x60 inner, rest) → rest ≡ []
    → element_at inner ≡ Some (element 0x80 count, mid) → element_at mid ≡ Some (element 0xa2 sequence, end) → end ≡ [] → length count ≡ 1
    → pdu_of apdu ≡ Some (record { count = count; sequence = sequence })
unfolding pdu_of
usual_parts apdu inner count sequence rest mid end h none k l empty_end one =
    rw (then 0 apdu (element 0x60 inner) rest _ h (last 0 rest none), then 2 inner (element 0x80 count) mid _ k (then 1 mid (element 0xa2 sequence) end _ l (last 1 end empty_end)), one) refl
