-- Numbers spelled in decimal digits.
use Rattle.std.proofs.Common.{◌≡◌, ◌∙◌, ℕ, ◌-◌, ◌^◌, ◌≤◌, ◌<◌, true, false, List, refl, sym, ap, arith, inl, inr}
use Rattle.std.specs.Prelude.{Option, Some, None, nat_le, ◌&&◌}
use Rattle.std.specs.Str.{bytes_eq}
use Rattle.std.specs.Str.Parse.{digits_value}
use Rattle.std.specs.Fmt.{decimal}
use Rattle.std.proofs.lemmas.Bool.{cases_Bool}
use Rattle.std.proofs.lemmas.Bool.Decides.{nat_tests}
use Rattle.std.proofs.lemmas.Slice.Eq.{bytes_eq-Decides}
use Rattle.std.proofs.lemmas.Fmt.{decimal_is_IsNumeral}
use Rattle.relay_tool.specs.Words.{spelled, within}

within-is : (low high n : ℕ) → low ≤ n → n ≤ high → within low high (Some n) ≡ Some n
within-is low high n above below = let t : (nat_le low n && nat_le n high) ≡ true = grind (arith, nat_tests) in rw t refl

within-not : (low high n : ℕ) → (low ≤ n → n ≤ high → ⊥) → within low high (Some n) ≡ None
within-not low high n not = elim (cases_Bool (nat_le low n && nat_le n high)) [
  | inl both ↦ absurd (not (grind (arith, nat_tests)) (grind (arith, nat_tests)))
  | inr out ↦ rw out refl
]

-- a word that a number spells
pub spelled-is : (word : List ℕ) (n : ℕ) → n < 2 ^ 64 → decimal n ≡ word → spelled word ≡ Some n
spelled-is word n small is =
    let value : digits_value 10 word ≡ n = ap (digits_value 10) (sym is) ∙ (decimal_is_IsNumeral n small).1 in
    let same : bytes_eq (decimal (digits_value 10 word)) word ≡ true = (bytes_eq-Decides (decimal (digits_value 10 word)) word).1 (ap decimal value ∙ is) in
    rw same (ap (λ x. Some x) value)

pub number-is : (word : List ℕ) (n : ℕ) → n < 2 ^ 64 → decimal n ≡ word → within 0 (2 ^ 64 - 1) (spelled word) ≡ Some n
number-is word n small is = ap (within 0 (2 ^ 64 - 1)) (spelled-is word n small is) ∙ within-is 0 (2 ^ 64 - 1) n (omega arith) (omega arith)

-- and one that none spells
pub number-none : (word : List ℕ) → ((n : ℕ) → n < 2 ^ 64 → decimal n ≡ word → ⊥) → within 0 (2 ^ 64 - 1) (spelled word) ≡ None
number-none word none = elim (cases_Bool (bytes_eq (decimal (digits_value 10 word)) word)) [
  | inl same ↦ rw same (within-not 0 (2 ^ 64 - 1) (digits_value 10 word) (λ above below. none (digits_value 10 word) (omega arith) ((bytes_eq-Decides (decimal (digits_value 10 word)) word).0 same)))
  | inr other ↦ rw other refl
]

some-some : {a b : ℕ} → Some a ≡ Some b → a ≡ b
some-some p = cc

-- what is within the greatest range, within a smaller one
pub within-less : (low high : ℕ) (spells : Option ℕ) (n : ℕ) → within 0 (2 ^ 64 - 1) spells ≡ Some n → low ≤ n → n ≤ high → within low high spells ≡ Some n
within-less low high None n e above below = cc
within-less low high (Some x) n e above below = elim (cases_Bool (nat_le 0 x && nat_le x (2 ^ 64 - 1))) [
  | inl both ↦ (let same : x ≡ n = some-some (rw both at e) in ap (λ y. within low high (Some y)) same ∙ within-is low high n above below)
  | inr out ↦ (let no = rw out at e in cc)
]

pub within-out : (low high : ℕ) (spells : Option ℕ) (n : ℕ) → within 0 (2 ^ 64 - 1) spells ≡ Some n → (low ≤ n → n ≤ high → ⊥) → within low high spells ≡ None
within-out low high None n e not = refl
within-out low high (Some x) n e not = elim (cases_Bool (nat_le 0 x && nat_le x (2 ^ 64 - 1))) [
  | inl both ↦ (let same : x ≡ n = some-some (rw both at e) in ap (λ y. within low high (Some y)) same ∙ within-not low high n not)
  | inr out ↦ (let no = rw out at e in cc)
]

pub within-gone : (low high : ℕ) (spells : Option ℕ) → high < 2 ^ 64 → within 0 (2 ^ 64 - 1) spells ≡ None → within low high spells ≡ None
within-gone low high None top e = refl
within-gone low high (Some x) top e = elim (cases_Bool (nat_le 0 x && nat_le x (2 ^ 64 - 1))) [
  | inl both ↦ (let no = rw both at e in cc)
  | inr out ↦ within-not low high x (λ above below. large out below)
]
  where
    large : (nat_le 0 x && nat_le x (2 ^ 64 - 1)) ≡ false → x ≤ high → ⊥
    large out below = let t : (nat_le 0 x && nat_le x (2 ^ 64 - 1)) ≡ true = grind (arith, nat_tests) in cc
