-- What is read is an element of the grammar, and each element of the grammar is read, whatever follows.
use Rattle.std.proofs.Common.{◌≡◌, ℕ, zero, suc, ◌+◌, ◌-◌, ◌%◌, ◌<◌, ◌≤◌, ◌⊎◌, ◌&&◌, Bool, true, false, cond, ltb, leb, eqb, List, [], ◌∷◌, ◌++◌, length, take, drop, Option, Some, None, refl, sym, ap, subst, ◌∙◌, append_assoc, arith, inl, inr}
use Rattle.std.proofs.lemmas.Bool.{le-ltb, lt-ltb, leb-true, le-leb, eqb-false, ne_eqb, ltb-true, and_parts}
use Rattle.std.proofs.lemmas.Option.{none-some, same_Some, some_pair_parts}
use Rattle.std.proofs.lemmas.List.{take_at, drop_at, take-append-drop, length-append, length-take-le, length-drop, get_or-take, drop-drop}
use Rattle.std.specs.Prelude.{Result, Ok, Err, IfOk, IfErr}
use Rattle.ber_fields.specs.declared.read.BerHead.{BerHead}
use Rattle.ber_fields.specs.declared.read.BadHead.{BadHead}
use Rattle.ber_fields.specs.Heads.{element_of, Gives}
use Rattle.byteorder.specs.Endian.{big_from, big_number}
use Rattle.ber_fields.specs.Element.{Element, element, IsLength, Spells, Fronts, ◌>>=◌, length_at, element_at}

-- which way a choice went
pub chosen : {A : Type 0} (b : Bool) (x y z : A) → cond b x y ≡ z → ((b ≡ true) × (x ≡ z)) ⊎ ((b ≡ false) × (y ≡ z))
chosen true x y z e = inl (refl, e)
chosen false x y z e = inr (refl, e)

pub both : (a b : Bool) → cond a b false ≡ true → (a ≡ true) × (b ≡ true)
both true b e = (refl, e)
both false b e = absurd cc

big_from-take : (i n m : ℕ) (xs : List ℕ) → i + n ≤ m → big_from i n (take m xs) ≡ big_from i n xs
big_from-take i zero m xs h = refl
big_from-take i (suc n) m xs h =
    rw (get_or-take m xs i 0 (omega arith), big_from-take (suc i) n m xs (omega arith)) refl

pub big_number-take : (n : ℕ) (xs : List ℕ) → big_number n (take n xs) ≡ big_number n xs
big_number-take n xs = big_from-take 0 n n xs (omega arith)

pub big_number-append : (n : ℕ) (xs ys : List ℕ) → length xs ≡ n → big_number n (xs ++ ys) ≡ big_number n xs
big_number-append n xs ys h = sym (big_number-take n (xs ++ ys)) ∙ ap (big_number n) (take_at xs ys n h)

-- what a spelling of a length is
pub record Spelled (bytes : List ℕ) (size n : ℕ) : Type 0 where
  pub fits : size ≤ length bytes
  pub is_length : IsLength (take size bytes) n

pub length_reads : (bytes : List ℕ) (size n : ℕ) → length_at bytes ≡ Some (size, n) → Spelled bytes size n
length_reads [] size n e = absurd cc
length_reads (b ∷ bytes) size n e =
    let Result : ℕ × ℕ → Type 0 = λ p. Spelled (b ∷ bytes) p.0 p.1 in
    elim (chosen (ltb b 128) (Some (1, b)) _ (Some (size, n)) e) [
      | inl p ↦ subst Result (same_Some (1, b) (size, n) p.1) (record { fits = omega arith; is_length = inl (ltb-true _ _ p.0, refl, refl) })
      | inr p ↦
          elim (chosen (ltb 128 b && (leb b 132 && leb (b - 128) (length bytes))) (Some (b - 127, big_number (b - 128) bytes)) None (Some (size, n)) p.1) [
            | inl q ↦
                let outer = and_parts _ _ q.0 in
                let inner = and_parts _ _ outer.1 in
                let above : 128 < b = ltb-true _ _ outer.0 in
                let below : b ≤ 132 = leb-true _ _ inner.0 in
                let here : b - 128 ≤ length bytes = leb-true _ _ inner.1 in
                let len : length (take (b - 128) bytes) ≡ b - 128 = length-take-le (b - 128) bytes here in
                let k : b - 127 ≡ suc (b - 128) = omega arith in
                let made : Spelled (b ∷ bytes) (b - 127) (big_number (b - 128) bytes) = record {
                  fits = omega arith;
                  is_length = rw k (inr (omega arith, omega arith, omega arith, rw len (sym (big_number-take (b - 128) bytes))));
                } in
                subst Result (same_Some (b - 127, big_number (b - 128) bytes) (size, n) q.1) made
            | inr q ↦ absurd cc
          ]
    ]

pub length_again : (spelling rest : List ℕ) (n : ℕ) → IsLength spelling n → length_at (spelling ++ rest) ≡ Some (length spelling, n)
length_again [] rest n h = absurd h
length_again (b ∷ digits) rest n h =
    elim h [
      | inl s ↦ rw (s.1, lt-ltb b 128 s.0, s.2) refl
      | inr l ↦
          let k : b - 128 ≡ length digits = omega arith in
          rw (le-ltb b 128 (omega arith), lt-ltb 128 b (omega arith), le-leb b 132 (omega arith), le-leb (b - 128) (length (digits ++ rest)) (omega (arith, length-append digits rest)), k, big_number-append (length digits) digits rest refl, ← l.3) (ap (λ (m : ℕ). Some (m, n)) (omega arith))
    ]

pub bound : {A B : Type 0} (o : Option A) (f : A → Option B) (y : B) → (o >>= f) ≡ Some y → (x : A) × (o ≡ Some x) × (f x ≡ Some y)
bound (Some x) f y e = (x, refl, e)
bound None f y e = absurd cc

pub reads : (bytes : List ℕ) (e : Element) (rest : List ℕ) → element_at bytes ≡ Some (e, rest) → Fronts bytes e rest
unfolding element_at
reads [] e rest h = absurd cc
reads (tag ∷ bytes) e rest h =
    elim (chosen (eqb (tag % 32) 31) None _ (Some (e, rest)) h) [
      | inl p ↦ absurd cc
      | inr p ↦
          let spelled = bound (length_at bytes) (λ s. cond (leb s.1 (length bytes - s.0)) (Some (element tag (take s.1 (drop s.0 bytes)), drop (s.0 + s.1) bytes)) None) (e, rest) p.1 in
          let size : ℕ = spelled.0.0 in
          let n : ℕ = spelled.0.1 in
          let s = length_reads bytes size n spelled.1 in
          elim (chosen (leb n (length bytes - size)) (Some (element tag (take n (drop size bytes)), drop (size + n) bytes)) None (Some (e, rest)) spelled.2) [
            | inl q ↦
                let fits : n ≤ length bytes - size = leb-true _ _ q.0 in
                let len : length (take n (drop size bytes)) ≡ n = length-take-le n (drop size bytes) (omega (arith, length-drop size bytes)) in
                let whole : bytes ≡ take size bytes ++ (take n (drop size bytes) ++ drop (size + n) bytes) =
                sym (take-append-drop size bytes) ∙ ap (λ (t : List ℕ). take size bytes ++ t) (sym (take-append-drop n (drop size bytes)) ∙ ap (λ (t : List ℕ). take n (drop size bytes) ++ t) (drop-drop n size bytes)) in
                let made : Fronts (tag ∷ bytes) (element tag (take n (drop size bytes))) (drop (size + n) bytes) = record {
                  front = tag ∷ (take size bytes ++ take n (drop size bytes));
                  parts = ap (λ (t : List ℕ). tag ∷ t) (whole ∙ sym (append_assoc (take size bytes) (take n (drop size bytes)) (drop (size + n) bytes)));
                  spells = record { tag = eqb-false _ _ p.0; spelling = take size bytes; is_length = subst (IsLength (take size bytes)) (sym len) s.is_length; whole = refl };
                } in
                subst (λ (x : Element × List ℕ). Fronts (tag ∷ bytes) x.0 x.1) (same_Some _ _ q.1) made
            | inr q ↦ absurd cc
          ]
    ]

pub again : (front rest : List ℕ) (e : Element) → Spells front e → element_at (front ++ rest) ≡ Some (e, rest)
unfolding element_at
again front rest e h =
    let regrouped : front ++ rest ≡ e.tag ∷ (h.spelling ++ (e.contents ++ rest)) =
    ap (λ (t : List ℕ). t ++ rest) h.whole ∙ ap (λ (t : List ℕ). e.tag ∷ t) (append_assoc h.spelling e.contents rest) in
    let room : leb (length e.contents) (length (h.spelling ++ (e.contents ++ rest)) - length h.spelling) ≡ true =
    le-leb _ _ (omega (arith, length-append h.spelling (e.contents ++ rest), length-append e.contents rest)) in
    ap element_at regrouped
    ∙ rw (ne_eqb (e.tag % 32) 31 h.tag, length_again h.spelling (e.contents ++ rest) (length e.contents) h.is_length, room, ← drop-drop (length e.contents) (length h.spelling) (h.spelling ++ (e.contents ++ rest)), drop_at h.spelling (e.contents ++ rest) (length h.spelling) refl, take_at e.contents rest (length e.contents) refl, drop_at e.contents rest (length e.contents) refl) refl

-- bytes begin with one element at most
pub one_reading : (bytes : List ℕ) (e f : Element) (x y : List ℕ) → Fronts bytes e x → Fronts bytes f y → (e ≡ f) × (x ≡ y)
one_reading bytes e f x y h k =
    let both_are : ◌≡◌ {A = Option (Element × List ℕ)} (Some (e, x)) (Some (f, y)) =
    sym (again h.front x e h.spells) ∙ ap element_at (sym h.parts ∙ k.parts) ∙ again k.front y f k.spells in
    some_pair_parts e f x y both_are

pub reads_nothing : (bytes : List ℕ) (e : Element) (rest : List ℕ) → element_at bytes ≡ None → Fronts bytes e rest → ⊥
reads_nothing bytes e rest h f = none-some (e, rest) (sym h ∙ ap element_at f.parts ∙ again f.front rest e f.spells)

pub is_found : (bytes at_front : List ℕ) (r : Result BerHead BadHead) → Gives (λ h. (element_of bytes h, drop h.end bytes)) r (element_at at_front)
    → IfOk r (λ h. Fronts at_front (element_of bytes h) (drop h.end bytes))
is_found bytes at_front (Ok h) given = reads at_front (element_of bytes h) (drop h.end bytes) given
is_found bytes at_front (Err e) given = tt

pub is_none : (bytes at_front : List ℕ) (r : Result BerHead BadHead) → Gives (λ h. (element_of bytes h, drop h.end bytes)) r (element_at at_front)
    → IfErr r (λ _. (e : Element) (rest : List ℕ) → Fronts at_front e rest → ⊥)
is_none bytes at_front (Ok h) given = tt
is_none bytes at_front (Err _) given = λ e rest f. reads_nothing at_front e rest given f
