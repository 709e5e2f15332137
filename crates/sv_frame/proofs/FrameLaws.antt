-- The whole frame: what is read is in the grammar, and what is in the grammar is read.
use Rattle.std.proofs.Common.{◌≡◌, ℕ, ◌≤◌, ◌&&◌, true, List, [], ◌∷◌, length, Some, None, refl, ap, subst, ◌∙◌, arith, inl, inr, lit≤}
use Rattle.std.specs.Prelude.{◌==◌, nat_le}
use Rattle.std.specs.List.{list_all, AllByRecursion}
use Rattle.std.proofs.lemmas.Bool.{leb-true, le-leb, eqb-true, eq-eqb, and_parts}
use Rattle.std.proofs.lemmas.Option.{same_Some}
use Rattle.byteorder.specs.Endian.{big_number}
use Rattle.ber_fields.specs.Element.{Element, element}
use Rattle.ber_fields.proofs.ElementLaws.{chosen, bound}
use Rattle.sv_frame.specs.Elements.{SpellAll, elements}
use Rattle.sv_frame.specs.Pdu.{Parts, counted, parts_of, only, pdu_of, sequence_of, texts_of}
use Rattle.sv_frame.specs.Grammar.{AreParts, IsPdu, IsSequence}
use Rattle.sv_frame.proofs.GrammarLaws.{tagged, elements_read, elements_again}

-- ---- the PDU

only_read : (tag : ℕ) (es : List Element) (contents : List ℕ) → only tag es ≡ Some contents → es ≡ element tag contents ∷ []
only_read tag [] contents h = absurd cc
only_read tag (e ∷ []) contents h =
    elim (chosen (e.tag == tag) (Some e.contents) None (Some contents) h) [
      | inl p ↦ ap (λ (x : Element). x ∷ []) (tagged e tag (eqb-true _ _ p.0) ∙ ap (element tag) (same_Some e.contents contents p.1))
      | inr p ↦ absurd cc
    ]
only_read tag (e ∷ f ∷ es) contents h = absurd cc

only_again : (tag : ℕ) (contents : List ℕ) → only tag (element tag contents ∷ []) ≡ Some contents
only_again tag contents = rw (eq-eqb tag tag refl) refl

record Counted (n s : Element) (parts : Parts) : Type 0 where
  number : n ≡ element 0x80 parts.count
  sequence : s ≡ element 0xa2 parts.sequence
  least : 1 ≤ length parts.count
  most : length parts.count ≤ 4

counted_read : (n s : Element) (parts : Parts) → counted n s ≡ Some parts → Counted n s parts
counted_read n s parts h =
    elim (chosen (n.tag == 0x80 && (nat_le 1 (length n.contents) && (nat_le (length n.contents) 4 && (s.tag == 0xa2)))) _ None (Some parts) h) [
      | inl p ↦
          let a = and_parts _ _ p.0 in
          let b = and_parts _ _ a.1 in
          let c = and_parts _ _ b.1 in
          let made : Counted n s (record { count = n.contents; sequence = s.contents }) = record {
            number = tagged n 0x80 (eqb-true _ _ a.0);
            sequence = tagged s 0xa2 (eqb-true _ _ c.1);
            least = leb-true _ _ b.0;
            most = leb-true _ _ c.0;
          } in
          subst (Counted n s) (same_Some _ _ p.1) made
      | inr p ↦ absurd cc
    ]

counted_again : (parts : Parts) → 1 ≤ length parts.count → length parts.count ≤ 4 → counted (element 0x80 parts.count) (element 0xa2 parts.sequence) ≡ Some parts
counted_again parts least most = rw (le-leb 1 (length parts.count) least, le-leb (length parts.count) 4 most) refl

parts_read : (es : List Element) (parts : Parts) → parts_of es ≡ Some parts → AreParts es parts
parts_read [] parts h = absurd cc
parts_read (n ∷ []) parts h = absurd cc
parts_read (n ∷ s ∷ []) parts h =
    let c = counted_read n s parts h in
    record { least = c.least; most = c.most; are = inl (rw (c.number, c.sequence) refl) }
parts_read (n ∷ o ∷ s ∷ []) parts h =
    elim (chosen (o.tag == 0x81) (counted n s) None (Some parts) h) [
      | inl p ↦
          let c = counted_read n s parts p.1 in
          record { least = c.least; most = c.most; are = inr (o.contents, rw (c.number, c.sequence, tagged o 0x81 (eqb-true _ _ p.0)) refl) }
      | inr p ↦ absurd cc
    ]
parts_read (n ∷ o ∷ s ∷ more ∷ es) parts h = absurd cc

parts_again : (es : List Element) (parts : Parts) → AreParts es parts → parts_of es ≡ Some parts
parts_again es parts h =
    elim h.are [
      | inl two ↦ ap parts_of two ∙ counted_again parts h.least h.most
      | inr three ↦ ap parts_of three.1 ∙ counted_again parts h.least h.most
    ]

parts_few : (es : List Element) (parts : Parts) → AreParts es parts → length es ≤ 3
parts_few es parts h =
    elim h.are [
      | inl two ↦ let e = ap length two in omega arith
      | inr three ↦ let e = ap length three.1 in omega arith
    ]

pub pdu_read : (apdu : List ℕ) (parts : Parts) → pdu_of apdu ≡ Some parts → IsPdu apdu parts
unfolding pdu_of
pdu_read apdu parts h =
    let a = bound (elements 1 apdu) _ parts h in
    let b = bound (only 0x60 a.0) _ parts a.2 in
    let c = bound (elements 3 b.0) _ parts b.2 in
    let outer = elements_read 1 apdu a.0 a.1 in
    let inner = elements_read 3 b.0 c.0 c.1 in
    record {
      inner = b.0;
      whole = subst (SpellAll apdu) (only_read 0x60 a.0 b.0 b.1) outer.0;
      fields = c.0;
      holds = inner.0;
      are_parts = parts_read c.0 parts c.2;
    }

pub pdu_again : (apdu : List ℕ) (parts : Parts) → IsPdu apdu parts → pdu_of apdu ≡ Some parts
unfolding pdu_of
pdu_again apdu parts h =
    rw (elements_again 1 apdu (element 0x60 h.inner ∷ []) h.whole (lit≤ tt), elements_again 3 h.inner h.fields h.holds (parts_few h.fields parts h.are_parts)) (parts_again h.fields parts h.are_parts)

-- ---- the sequence

tags_read : (es : List Element) → list_all (λ e. e.tag == 0x30) es ≡ true → AllByRecursion (λ e. e.tag ≡ 0x30) es
tags_read [] h = tt
tags_read (e ∷ es) h = let p = and_parts (e.tag == 0x30) _ h in (eqb-true _ _ p.0, tags_read es p.1)

tags_again : (es : List Element) → AllByRecursion (λ e. e.tag ≡ 0x30) es → list_all (λ e. e.tag == 0x30) es ≡ true
tags_again [] h = refl
tags_again (e ∷ es) h = rw (eq-eqb e.tag 0x30 h.0) (tags_again es h.1)

pub sequence_read : (parts : Parts) (texts : List Element) → texts_of parts ≡ Some texts → IsSequence parts texts
sequence_read parts texts h =
    let n : ℕ = big_number (length parts.count) parts.count in
    elim (chosen (nat_le 1 n && nat_le n 16) (sequence_of n parts.sequence) None (Some texts) h) [
      | inl p ↦
          let r : (nat_le 1 n ≡ true) × (nat_le n 16 ≡ true) = and_parts _ _ p.0 in
          let a = bound (elements n parts.sequence) _ texts p.1 in
          let es = elements_read n parts.sequence a.0 a.1 in
          elim (chosen (length a.0 == n && list_all (λ e. e.tag == 0x30) a.0) (Some a.0) None (Some texts) a.2) [
            | inl q ↦
                let t = and_parts _ _ q.0 in
                let many : length a.0 ≡ n = eqb-true _ _ t.0 in
                let made : IsSequence parts a.0 = record {
                  number = many;
                  least = omega (arith, leb-true 1 n r.0);
                  most = omega (arith, leb-true n 16 r.1);
                  whole = es.0;
                  tags = tags_read a.0 t.1;
                } in
                subst (IsSequence parts) (same_Some a.0 texts q.1) made
            | inr q ↦ absurd cc
          ]
      | inr p ↦ absurd cc
    ]

pub sequence_again : (parts : Parts) (texts : List Element) → IsSequence parts texts → texts_of parts ≡ Some texts
sequence_again parts texts h =
    rw (← h.number, le-leb 1 (length texts) h.least, le-leb (length texts) 16 h.most, elements_again (length texts) parts.sequence texts h.whole (omega arith), eq-eqb (length texts) (length texts) refl, tags_again texts h.tags) refl
