-- What is read is in the grammar, and what is in the grammar is read.
use Rattle.std.proofs.Common.{◌≡◌, ◌≢◌, ℕ, zero, suc, ◌+◌, ◌<◌, ◌≤◌, ◌⊎◌, Bool, true, false, cond, leb, List, [], ◌∷◌, length, Some, None, refl, sym, ap, subst, ◌∙◌, arith, inl, inr, lit≤}
use Rattle.std.specs.Prelude.{◌==◌, find}
use Rattle.std.proofs.lemmas.Bool.{leb-true, eqb-true, eq-eqb, ne_eqb, and_parts, leb-false}
use Rattle.std.proofs.lemmas.Option.{same_Some}
use Rattle.byteorder.specs.Endian.{big_number}
use Rattle.ber_fields.specs.Element.{Element, element, Fronts, ◌>>=◌, element_at}
use Rattle.ber_fields.proofs.ElementLaws.{chosen, bound, reads, again}
use Rattle.sv_frame.specs.Elements.{SpellAll, elements}
use Rattle.sv_frame.specs.Asdu.{PlainAsdu, known, is_rising, contents_of, sized, asdu_from, asdu_of, asdus_of}
use Rattle.sv_frame.specs.Grammar.{Has, HasNumber, FieldsSay, IsAsdu, AreAsdus}
use Rattle.sv_frame.proofs.ElementLemmas.{next, empty}

-- ---- elements one behind the other

fronts_read : (bytes : List ℕ) (e : Element) (rest : List ℕ) → Fronts bytes e rest → element_at bytes ≡ Some (e, rest)
fronts_read bytes e rest f = ap element_at f.parts ∙ again f.front rest e f.spells

nothing_fronts : (e : Element) (rest : List ℕ) → Fronts [] e rest → ⊥
unfolding element_at
nothing_fronts e rest f = let h = fronts_read [] e rest f in absurd cc

pub elements_read : (most : ℕ) (bytes : List ℕ) (es : List Element) → elements most bytes ≡ Some es → SpellAll bytes es × (length es ≤ most)
unfolding elements
elements_read zero [] es h = subst (λ (xs : List Element). SpellAll [] xs × (length xs ≤ 0)) (same_Some [] es h) (refl, omega arith)
elements_read (suc most) [] es h = subst (λ (xs : List Element). SpellAll [] xs × (length xs ≤ suc most)) (same_Some [] es h) (refl, omega arith)
elements_read zero (b ∷ bytes) es h = absurd cc
elements_read (suc most) (b ∷ bytes) es h =
    let first = bound (element_at (b ∷ bytes)) (λ first. elements most first.1 >>= λ others. Some (first.0 ∷ others)) es h in
    let others = bound (elements most first.0.1) (λ others. Some (first.0.0 ∷ others)) es first.2 in
    let rest = elements_read most first.0.1 others.0 others.1 in
    subst (λ (xs : List Element). SpellAll (b ∷ bytes) xs × (length xs ≤ suc most)) (same_Some (first.0.0 ∷ others.0) es others.2)
    ((first.0.1, reads (b ∷ bytes) first.0.0 first.0.1 first.1, rest.0), omega arith)

pub elements_again : (most : ℕ) (bytes : List ℕ) (es : List Element) → SpellAll bytes es → length es ≤ most → elements most bytes ≡ Some es
elements_again most bytes [] h few = ap (elements most) h ∙ empty most
elements_again zero bytes (e ∷ es) h few = absurd (omega arith)
elements_again (suc most) [] (e ∷ es) h few = absurd (nothing_fronts e h.0 h.1)
elements_again (suc most) (b ∷ bytes) (e ∷ es) h few =
    next most (b ∷ bytes) e h.0 (omega arith) (fronts_read (b ∷ bytes) e h.0 h.1) ∙ rw (elements_again most h.0 es h.2 (omega arith)) refl

-- ---- fields

pub tagged : (e : Element) (tag : ℕ) → e.tag ≡ tag → e ≡ element tag e.contents
tagged e tag h = ap (λ (t : ℕ). element t e.contents) h

find_has : (tag : ℕ) (fields : List Element) (g : Element) → find (λ f. f.tag == tag) fields ≡ Some g → Has fields g × (g.tag ≡ tag)
find_has tag [] g h = absurd cc
find_has tag (f ∷ fields) g h =
    elim (chosen (f.tag == tag) (Some f) (find (λ f. f.tag == tag) fields) (Some g) h) [
      | inl p ↦ let same = same_Some f g p.1 in (inl same, ap (λ (e : Element). e.tag) (sym same) ∙ eqb-true _ _ p.0)
      | inr p ↦ let rest = find_has tag fields g p.1 in (inr rest.0, rest.1)
    ]

contents_read : (tag : ℕ) (fields : List Element) (contents : List ℕ) → contents_of tag fields ≡ Some contents → Has fields (element tag contents)
contents_read tag fields contents h =
    let b = bound (find (λ f. f.tag == tag) fields) (λ f. Some f.contents) contents h in
    let found = find_has tag fields b.0 b.1 in
    subst (Has fields) (tagged b.0 tag found.1 ∙ ap (element tag) (same_Some b.0.contents contents b.2)) found.0

-- what the fields that rise say of the first
pub record Kept (low : ℕ) (f : Element) (fields : List Element) : Type 0 where
  pub small : f.tag ≤ 0x89
  pub above : low ≤ f.tag
  pub rises : is_rising (f.tag + 1) (known fields) ≡ true

pub record Skipped (low : ℕ) (f : Element) (fields : List Element) : Type 0 where
  pub large : 0x89 < f.tag
  pub rises : is_rising low (known fields) ≡ true

first_of_known : (b : Bool) (low : ℕ) (f : Element) (fields : List Element) → leb f.tag 0x89 ≡ b → is_rising low (cond b (f ∷ known fields) (known fields)) ≡ true → Kept low f fields ⊎ Skipped low f fields
first_of_known true low f fields is h =
    let p = and_parts (leb low f.tag) (is_rising (f.tag + 1) (known fields)) h in
    inl (record { small = leb-true _ _ is; above = leb-true _ _ p.0; rises = p.1 })
first_of_known false low f fields is h = inr (record { large = leb-false _ _ is; rises = h })

kept_or_skipped : (low : ℕ) (f : Element) (fields : List Element) → is_rising low (known (f ∷ fields)) ≡ true → Kept low f fields ⊎ Skipped low f fields
kept_or_skipped low f fields h = first_of_known (leb f.tag 0x89) low f fields refl h

rises_above : (low : ℕ) (fields : List Element) (e : Element) → is_rising low (known fields) ≡ true → e.tag ≤ 0x89 → Has fields e → low ≤ e.tag
rises_above low [] e rises small has = absurd has
rises_above low (f ∷ fields) e rises small has =
    elim (kept_or_skipped low f fields rises) [
      | inl k ↦ elim has [
        | inl same ↦ let t : f.tag ≡ e.tag = ap (λ (x : Element). x.tag) same in omega (arith, k.above)
        | inr later ↦ let t = rises_above (f.tag + 1) fields e k.rises small later in omega (arith, k.above)
      ]
      | inr s ↦ elim has [
        | inl same ↦ let t : f.tag ≡ e.tag = ap (λ (x : Element). x.tag) same in absurd (omega (arith, s.large))
        | inr later ↦ rises_above low fields e s.rises small later
      ]
    ]

at_first : (tag : ℕ) (f : Element) (fields : List Element) (contents : List ℕ) → f ≡ element tag contents → contents_of tag (f ∷ fields) ≡ Some contents
at_first tag f fields contents same = rw (eq-eqb f.tag tag (ap (λ (x : Element). x.tag) same)) (ap (λ (x : Element). Some x.contents) same)

at_later : (tag : ℕ) (f : Element) (fields : List Element) (contents : List ℕ) → f.tag ≢ tag → contents_of tag fields ≡ Some contents → contents_of tag (f ∷ fields) ≡ Some contents
at_later tag f fields contents differ h = rw (ne_eqb f.tag tag differ) h

contents_again : (low tag : ℕ) (fields : List Element) (contents : List ℕ) → is_rising low (known fields) ≡ true → tag ≤ 0x89 → Has fields (element tag contents) → contents_of tag fields ≡ Some contents
contents_again low tag [] contents rises small has = absurd has
contents_again low tag (f ∷ fields) contents rises small has =
    elim has [
      | inl same ↦ at_first tag f fields contents same
      | inr later ↦ elim (kept_or_skipped low f fields rises) [
        | inl k ↦
            let above = rises_above (f.tag + 1) fields (element tag contents) k.rises small later in
            at_later tag f fields contents (λ e. omega (arith, above)) (contents_again (f.tag + 1) tag fields contents k.rises small later)
        | inr s ↦ at_later tag f fields contents (λ e. omega (arith, s.large)) (contents_again low tag fields contents s.rises small later)
      ]
    ]

-- ---- an ASDU

sized_read : (size tag : ℕ) (fields : List Element) (bytes : List ℕ) → sized size tag fields ≡ Some bytes → HasNumber size tag fields (big_number size bytes)
sized_read size tag fields bytes h =
    let b = bound (contents_of tag fields) (λ bytes. cond (length bytes == size) (Some bytes) None) bytes h in
    elim (chosen (length b.0 == size) (Some b.0) None (Some bytes) b.2) [
      | inl p ↦
          let same = same_Some b.0 bytes p.1 in
          (bytes, contents_read tag fields bytes (b.1 ∙ ap (λ (x : List ℕ). Some x) same), ap length (sym same) ∙ eqb-true _ _ p.0, refl)
      | inr p ↦ absurd cc
    ]

sized_again : (size tag : ℕ) (fields : List Element) (n : ℕ) (has : HasNumber size tag fields n) → is_rising 0x80 (known fields) ≡ true → tag ≤ 0x89 → sized size tag fields ≡ Some has.0
sized_again size tag fields n has rises small =
    rw (contents_again 0x80 tag fields has.0 rises small has.1, eq-eqb (length has.0) size has.2) refl

pub said_read : (fields : List Element) (x : PlainAsdu) → asdu_from fields ≡ Some x → FieldsSay fields x
unfolding asdu_from
said_read fields x h =
    elim (chosen (is_rising 0x80 (known fields)) _ None (Some x) h) [
      | inl p ↦
          let a = bound (contents_of 0x80 fields) _ x p.1 in
          let b = bound (sized 2 0x82 fields) _ x a.2 in
          let c = bound (sized 4 0x83 fields) _ x b.2 in
          let d = bound (sized 1 0x85 fields) _ x c.2 in
          let e = bound (contents_of 0x87 fields) _ x d.2 in
          let made : FieldsSay fields (record { sv_id = a.0; counter = big_number 2 b.0; conf_rev = big_number 4 c.0; synch = big_number 1 d.0; samples = e.0 }) = record {
            rises = p.0;
            sv_id = contents_read 0x80 fields a.0 a.1;
            counter = sized_read 2 0x82 fields b.0 b.1;
            conf_rev = sized_read 4 0x83 fields c.0 c.1;
            synch = sized_read 1 0x85 fields d.0 d.1;
            samples = contents_read 0x87 fields e.0 e.1;
          } in
          subst (FieldsSay fields) (same_Some _ _ e.2) made
      | inr p ↦ absurd cc
    ]

pub said_again : (fields : List Element) (x : PlainAsdu) → FieldsSay fields x → asdu_from fields ≡ Some x
unfolding asdu_from
said_again fields x h =
    rw (h.rises, contents_again 0x80 0x80 fields x.sv_id h.rises (lit≤ tt) h.sv_id, sized_again 2 0x82 fields x.counter h.counter h.rises (lit≤ tt), sized_again 4 0x83 fields x.conf_rev h.conf_rev h.rises (lit≤ tt), sized_again 1 0x85 fields x.synch h.synch h.rises (lit≤ tt), contents_again 0x80 0x87 fields x.samples h.rises (lit≤ tt) h.samples, ← h.counter.3, ← h.conf_rev.3, ← h.synch.3) refl

pub asdu_read : (bytes : List ℕ) (x : PlainAsdu) → asdu_of bytes ≡ Some x → IsAsdu bytes x
asdu_read bytes x h =
    let b = bound (elements 16 bytes) asdu_from x h in
    let es = elements_read 16 bytes b.0 b.1 in
    record { fields = b.0; whole = es.0; few = es.1; says = said_read b.0 x b.2 }

pub asdu_again : (bytes : List ℕ) (x : PlainAsdu) → IsAsdu bytes x → asdu_of bytes ≡ Some x
asdu_again bytes x h = rw (elements_again 16 bytes h.fields h.whole h.few) (said_again h.fields x h.says)

pub asdus_read : (texts : List Element) (xs : List PlainAsdu) → asdus_of texts ≡ Some xs → AreAsdus texts xs
asdus_read [] [] h = tt
asdus_read [] (x ∷ xs) h = absurd cc
asdus_read (text ∷ texts) xs h =
    let a = bound (asdu_of text.contents) _ xs h in
    let b = bound (asdus_of texts) _ xs a.2 in
    subst (AreAsdus (text ∷ texts)) (same_Some (a.0 ∷ b.0) xs b.2) (asdu_read text.contents a.0 a.1, asdus_read texts b.0 b.1)

pub asdus_again : (texts : List Element) (xs : List PlainAsdu) → AreAsdus texts xs → asdus_of texts ≡ Some xs
asdus_again [] [] h = refl
asdus_again [] (x ∷ xs) h = absurd h
asdus_again (text ∷ texts) [] h = absurd h
asdus_again (text ∷ texts) (x ∷ xs) h = rw (asdu_again text.contents x h.0, asdus_again texts xs h.1) refl
