-- Samples from a number on.
use Rattle.std.proofs.Common.{◌≡◌, ◌∙◌, ℕ, ◌-◌, ◌<◌, ◌≤◌, inl, inr, Bool, true, false, refl, sym, ap, subst, arith, List, [], ◌∷◌, ◌++◌, length, Some, None, slice_get, reverse}
use Rattle.std.specs.Prelude.{◌&&◌, nat_le, filter}
use Rattle.std.proofs.lemmas.Bool.{cases_lt}
use Rattle.std.proofs.lemmas.Bool.Decides.{nat_tests}
use Rattle.std.proofs.lemmas.List.{reverse-append, length-reverse, nil_from_length}
use Rattle.sample_windows.specs.Numbered.{newest_number, Rises}
use Rattle.comtrade_write.specs.declared.covered.Recorded.{Recorded}
use Rattle.comtrade_write.specs.Covered.{number_of_recorded, from_to}
use Rattle.comtrade_write.specs.Kept.{from_number}

-- the tests of a number
pub not_below : (low n : ℕ) → low ≤ n → nat_le low n ≡ true
not_below low n h = grind (arith, nat_tests)

pub below : (low n : ℕ) → n < low → nat_le low n ≡ false
below low n h = grind (arith, nat_tests)

pub from_number-first : (low : ℕ) (items : List Recorded) (r : Recorded) → Some r ≡ slice_get items 0 → low ≤ r.number → from_number low items ≡ items
from_number-first low [] r e h = refl
from_number-first low (x ∷ rest) r e h =
    let same : r ≡ x = cc in
    rw (not_below low x.number (subst (λ (y : Recorded). low ≤ y.number) same h))

pub from_number-none : (low : ℕ) (items : List Recorded) → None ≡ slice_get items 0 → from_number low items ≡ items
from_number-none low [] e = refl
from_number-none low (x ∷ rest) e = cc

abbrev pub is_between : ℕ → ℕ → Recorded → Bool
is_between low high r = nat_le low r.number && nat_le r.number high

pub between : (low high : ℕ) (r : Recorded) → low ≤ r.number → r.number ≤ high → is_between low high r ≡ true
between low high r h k = rw (not_below low r.number h) (not_below r.number high k)

pub too_low : (low high : ℕ) (r : Recorded) → r.number < low → is_between low high r ≡ false
too_low low high r h = rw (below low r.number h)

pub too_high : (low high : ℕ) (r : Recorded) → high < r.number → is_between low high r ≡ false
too_high low high r h = and_false (nat_le low r.number) (below r.number high h)
  where
    and_false : (b : Bool) {d : Bool} → d ≡ false → (b && d) ≡ false
    and_false true e = e
    and_false false e = refl

pub reverse-cons : (r : Recorded) (rs : List Recorded) → reverse (r ∷ rs) ≡ reverse rs ++ r ∷ []
reverse-cons r rs = reverse-append (r ∷ []) rs

-- the newest sample behind the older ones, where it is between
pub from_to-kept : (low high : ℕ) (r : Recorded) (older : List Recorded) → low ≤ r.number → r.number ≤ high →
    from_to low high (r ∷ older) ≡ from_to low high older ++ r ∷ []
from_to-kept low high r older h k = rw (between low high r h k) (reverse-cons r (filter (is_between low high) older))

pub from_to-high : (low high : ℕ) (r : Recorded) (older : List Recorded) → high < r.number → from_to low high (r ∷ older) ≡ from_to low high older
from_to-high low high r older h = rw (too_high low high r h)

-- numbers rise to the newest
pub older-most : (r : Recorded) (older : List Recorded) → Rises number_of_recorded (r ∷ older) → newest_number number_of_recorded older ≤ r.number
older-most r [] rises = omega arith
older-most r (x ∷ older) rises = omega (arith, rises.0)

pub older-rises : (r : Recorded) (older : List Recorded) → Rises number_of_recorded (r ∷ older) → Rises number_of_recorded older
older-rises r [] rises = tt
older-rises r (x ∷ older) rises = rises.1

-- at most so many samples have a number from low to below the next
pub few : (low high : ℕ) (next : Recorded) (rs : List Recorded) → Rises number_of_recorded (next ∷ rs) →
    length (filter (is_between low high) rs) ≤ next.number - low
few low high next [] rises = omega arith
few low high next (r ∷ older) rises =
    let behind = few low high r older rises.1 in
    elim (cases_lt r.number low) [
      | inl lt ↦ rw (too_low low high r lt) (omega (arith, behind, rises.0))
      | inr ge ↦ elim (cases_lt high r.number) [
        | inl gt ↦ rw (too_high low high r gt) (omega (arith, behind, rises.0))
        | inr le ↦ rw (between low high r ge le) (omega (arith, behind, rises.0))
      ]
    ]

pub length-from_to : (low high : ℕ) (next : Recorded) (rs : List Recorded) → Rises number_of_recorded (next ∷ rs) →
    length (from_to low high rs) ≤ next.number - low
length-from_to low high next rs rises = rw length-reverse (few low high next rs rises)

-- the same samples, where each number is at most both bounds
pub filter-same : (low high more : ℕ) (rs : List Recorded) (most : ℕ) → Rises number_of_recorded rs → newest_number number_of_recorded rs ≤ most →
    most ≤ high → most ≤ more → filter (is_between low high) rs ≡ filter (is_between low more) rs
filter-same low high more [] most rises newest h k = refl
filter-same low high more (r ∷ older) most rises newest h k =
    let rest = filter-same low high more older most (older-rises r older rises) (omega (arith, older-most r older rises, newest)) h k in
    elim (cases_lt r.number low) [
      | inl lt ↦ rw (too_low low high r lt, too_low low more r lt) rest
      | inr ge ↦ rw (between low high r ge (omega (arith, newest)), between low more r ge (omega (arith, newest))) (ap (λ (xs : List Recorded). r ∷ xs) rest)
    ]

pub from_to-same : (low high more : ℕ) (rs : List Recorded) (most : ℕ) → Rises number_of_recorded rs → newest_number number_of_recorded rs ≤ most →
    most ≤ high → most ≤ more → from_to low high rs ≡ from_to low more rs
from_to-same low high more rs most rises newest h k = ap reverse (filter-same low high more rs most rises newest h k)

-- forgetting the first samples below a number
forget-all : (low : ℕ) (xs ys : List Recorded) → from_number low xs ≡ [] → from_number low (xs ++ ys) ≡ from_number low ys
forget-all low [] ys e = refl
forget-all low (x ∷ xs) ys e =
    elim (cases_lt x.number low) [
      | inl lt ↦ rw (below low x.number lt) (forget-all low xs ys (rw (below low x.number lt) at e))
      | inr ge ↦ let no = rw (not_below low x.number ge) at e in cc
    ]

forget-kept : (low : ℕ) (xs : List Recorded) (r : Recorded) → low ≤ r.number → from_number low (xs ++ r ∷ []) ≡ from_number low xs ++ r ∷ []
forget-kept low [] r h = rw (not_below low r.number h)
forget-kept low (x ∷ xs) r h =
    elim (cases_lt x.number low) [
      | inl lt ↦ rw (below low x.number lt) (forget-kept low xs r h)
      | inr ge ↦ rw (not_below low x.number ge)
    ]

none-below : (low high : ℕ) (r : Recorded) (older : List Recorded) → Rises number_of_recorded (r ∷ older) → r.number < low → filter (is_between low high) older ≡ []
none-below low high r older rises lt = nil_from_length (filter (is_between low high) older) (omega (arith, few low high r older rises))

pub from_number-from_to : (low from high : ℕ) (rs : List Recorded) → Rises number_of_recorded rs → from ≤ low →
    from_number low (from_to from high rs) ≡ from_to low high rs
from_number-from_to low from high [] rises h = refl
from_number-from_to low from high (r ∷ older) rises h =
    let rest = from_number-from_to low from high older (older-rises r older rises) h in
    elim (cases_lt high r.number) [
      | inl gt ↦ rw (too_high from high r gt, too_high low high r gt) rest
      | inr le ↦ elim (cases_lt r.number low) [
        | inl lt ↦
            let none = none-below low high r older rises lt in
            let gone = rest ∙ ap reverse none in
            elim (cases_lt r.number from) [
              | inl lower ↦ rw (too_low from high r lower, too_low low high r lt) rest
              | inr ge ↦ rw (between from high r ge le, too_low low high r lt)
                  (ap (from_number low) (reverse-cons r (filter (is_between from high) older))
                  ∙ forget-all low (reverse (filter (is_between from high) older)) (r ∷ []) gone
                  ∙ rw (below low r.number lt) (ap reverse (sym none)))
            ]
        | inr ge ↦ rw (between from high r (omega arith) le, between low high r ge le)
            (ap (from_number low) (reverse-cons r (filter (is_between from high) older))
            ∙ forget-kept low (reverse (filter (is_between from high) older)) r ge
            ∙ ap (λ (xs : List Recorded). xs ++ r ∷ []) rest
            ∙ sym (reverse-cons r (filter (is_between low high) older)))
      ]
    ]
