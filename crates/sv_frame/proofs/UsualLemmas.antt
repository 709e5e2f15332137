-- An ASDU that is the five required fields, one behind the other, and each short.
use Rattle.std.proofs.Common.{◌≡◌, ◌≢◌, ℕ, suc, ◌+◌, ◌-◌, ◌%◌, ◌<◌, ◌≤◌, List, [], ◌∷◌, length, take, drop, slice_index_or, Option, Some, refl, sym, ap, ap₂, ◌∙◌, arith}
use Rattle.std.proofs.lemmas.Bool.{ne_eqb, lt-ltb, le-leb}
use Rattle.std.proofs.lemmas.List.{drop-drop, length-drop, take_rest, get_or-drop}
use Rattle.std.specs.List.{slice_range}
use Rattle.byteorder.specs.Endian.{big_number}
use Rattle.ber_fields.specs.Element.{Element, element, element_at}
use Rattle.sv_frame.specs.Asdu.{asdu_of}
use Rattle.sv_frame.specs.Gathering.{nothing_gathered}
use Rattle.sv_frame.proofs.GatherLemmas.{starts, goes_on, ends}

-- an element whose length is one byte
pub short_element : (bytes : List ℕ) (tag n : ℕ) → 2 ≤ length bytes → slice_index_or bytes 0 0 ≡ tag → slice_index_or bytes 1 0 ≡ n →
    tag % 32 ≢ 31 → n < 128 → n ≤ length bytes - 2 → element_at bytes ≡ Some (element tag (take n (drop 2 bytes)), drop (2 + n) bytes)
unfolding element_at
short_element [] tag n long is_tag is_n low small fits = absurd (omega arith)
short_element (t ∷ []) tag n long is_tag is_n low small fits = absurd (omega arith)
short_element (t ∷ b ∷ ys) tag n long is_tag is_n low small fits =
    let here : n ≤ length (b ∷ ys) - 1 = omega arith in
    let two : 2 + n ≡ suc (suc n) = omega arith in
    let one : 1 + n ≡ suc n = omega arith in
    rw (is_tag, is_n, ne_eqb (tag % 32) 31 low, lt-ltb n 128 small, le-leb n (length (b ∷ ys) - 1) here, two, one) refl

-- the same of the rest of some bytes
pub short_element_at : (bytes rest : List ℕ) (at tag n : ℕ) → rest ≡ drop at bytes → 2 ≤ length rest → slice_index_or rest 0 0 ≡ tag →
    slice_index_or rest 1 0 ≡ n → tag % 32 ≢ 31 → n < 128 → n ≤ length (take (length rest - 2) (drop 2 rest)) →
    element_at (drop at bytes) ≡ Some (element tag (slice_range bytes (at + 2) (at + 2 + n)), drop (at + 2 + n) bytes)
short_element_at bytes rest at tag n is long is_tag is_n low small fits =
    let size : at + 2 + n - (at + 2) ≡ n = omega arith in
    let start : drop 2 rest ≡ drop (at + 2) bytes = ap (drop 2) is ∙ drop-drop 2 at bytes in
    let sum : at + (2 + n) ≡ at + 2 + n = omega arith in
    let end : drop (2 + n) rest ≡ drop (at + 2 + n) bytes = ap (drop (2 + n)) is ∙ drop-drop (2 + n) at bytes ∙ ap (λ k. drop k bytes) sum in
    let here : n ≤ length rest - 2 = rw (take_rest rest 2, length-drop 2 rest) at fits in
    ap element_at (sym is) ∙ short_element rest tag n long is_tag is_n low small here ∙ rw (start, end, size) refl

-- the same by the places of its two bytes
pub short_element_in : (bytes : List ℕ) (at tag n : ℕ) → at + 2 + n ≤ length bytes → slice_index_or bytes at 0 ≡ tag → slice_index_or bytes (at + 1) 0 ≡ n →
    tag % 32 ≢ 31 → n < 128 →
    element_at (drop at bytes) ≡ Some (element tag (slice_range bytes (at + 2) (at + 2 + n)), drop (at + 2 + n) bytes)
short_element_in bytes at tag n inside is_tag is_n low small =
    let long : length (drop at bytes) ≡ length bytes - at = length-drop at bytes in
    let none : at + 0 ≡ at = omega arith in
    let first : slice_index_or (drop at bytes) 0 0 ≡ tag = get_or-drop at bytes 0 0 ∙ ap (λ k. slice_index_or bytes k 0) none ∙ is_tag in
    let second : slice_index_or (drop at bytes) 1 0 ≡ n = get_or-drop at bytes 1 0 ∙ is_n in
    let fits : n ≤ length (take (length (drop at bytes) - 2) (drop 2 (drop at bytes))) = rw (take_rest (drop at bytes) 2, length-drop 2 (drop at bytes)) (omega arith) in
    short_element_at bytes (drop at bytes) at tag n refl (omega arith) first second low small fits

-- the places of its contents spelled otherwise
pub placed : (bytes : List ℕ) (at tag n start end : ℕ) → at + 2 ≡ start → at + 2 + n ≡ end →
    element_at (drop at bytes) ≡ Some (element tag (slice_range bytes (at + 2) (at + 2 + n)), drop (at + 2 + n) bytes) →
    element_at (drop at bytes) ≡ Some (element tag (slice_range bytes start end), drop end bytes)
placed bytes at tag n start end p q h = h ∙ ap₂ (λ i j. let read : Option (Element × List ℕ) = Some (element tag (slice_range bytes i j), drop j bytes) in read) p q

-- a number of one byte
pub one_byte : (bytes : List ℕ) → big_number 1 bytes ≡ slice_index_or bytes 0 0
one_byte bytes = omega arith

pub five_fields : (text a b c d e r1 r2 r3 r4 r5 : List ℕ) →
    element_at text ≡ Some (element 0x80 a, r1) → element_at r1 ≡ Some (element 0x82 b, r2) → element_at r2 ≡ Some (element 0x83 c, r3) →
    element_at r3 ≡ Some (element 0x85 d, r4) → element_at r4 ≡ Some (element 0x87 e, r5) → r5 ≡ [] →
    length b ≡ 2 → length c ≡ 4 → length d ≡ 1 →
    asdu_of text ≡ Some (record { sv_id = a; counter = big_number 2 b; conf_rev = big_number 4 c; synch = big_number 1 d; samples = e })
five_fields text a b c d e r1 r2 r3 r4 r5 h1 h2 h3 h4 h5 none two four one =
    sym (starts text)
    ∙ goes_on 16 15 text (element 0x80 a) r1 nothing_gathered _ refl h1 refl
    ∙ goes_on 15 14 r1 (element 0x82 b) r2 _ _ refl h2 refl
    ∙ goes_on 14 13 r2 (element 0x83 c) r3 _ _ refl h3 refl
    ∙ goes_on 13 12 r3 (element 0x85 d) r4 _ _ refl h4 refl
    ∙ goes_on 12 11 r4 (element 0x87 e) r5 _ _ refl h5 refl
    ∙ ends 11 r5 _ none
    ∙ rw (two, four, one) refl
