-- The covered samples and the data lines by their places.
use Rattle.std.proofs.Common.{◌≡◌, ◌∙◌, ℕ, zero, suc, ◌+◌, ◌≤◌, ◌⊎◌, inl, inr, Bool, false, refl, sym, ap, ap₂, subst, arith, List, [], ◌∷◌, ◌++◌, length, Some, slice_get}
use Rattle.std.specs.Prelude.{◌==◌, if◌then◌else◌}
use Rattle.std.proofs.lemmas.Bool.{cases_lt}
use Rattle.std.proofs.lemmas.Bool.Decides.{nat_tests}
use Rattle.comtrade_write.specs.declared.covered.Recorded.{Recorded}
use Rattle.comtrade_write.specs.Covered.{from_to}
use Rattle.comtrade_write.specs.DataTexts.{data_text, file_end, lines_from}
use Rattle.comtrade_write.proofs.NumberLemmas.{too_low, too_high, from_to-kept}

behind : (xs : List Recorded) (r : Recorded) (place : ℕ) (q : Recorded) → slice_get (xs ++ r ∷ []) place ≡ Some q → (slice_get xs place ≡ Some q) ⊎ (q ≡ r)
behind [] r zero q e = inr cc
behind [] r (suc place) q e = cc
behind (x ∷ xs) r zero q e = inl e
behind (x ∷ xs) r (suc place) q e = behind xs r place q e

-- what a record covers lies between its ends
pub in-window : (low high : ℕ) (rs : List Recorded) (place : ℕ) (q : Recorded) → slice_get (from_to low high rs) place ≡ Some q → (low ≤ q.number) × (q.number ≤ high)
in-window low high [] place q e = cc
in-window low high (r ∷ older) place q e =
    elim (cases_lt r.number low) [
      | inl lt ↦ in-window low high older place q (rw (too_low low high r lt) at e)
      | inr ge ↦ elim (cases_lt high r.number) [
        | inl gt ↦ in-window low high older place q (rw (too_high low high r gt) at e)
        | inr le ↦ elim (behind (from_to low high older) r place q (subst (λ (xs : List Recorded). slice_get xs place ≡ Some q) (from_to-kept low high r older ge le) e)) [
          | inl before ↦ in-window low high older place q before
          | inr same ↦ (subst (λ (x : Recorded). low ≤ x.number) (sym same) ge, subst (λ (x : Recorded). x.number ≤ high) (sym same) le)
        ]
      ]
    ]

-- the end of the file stands behind the last
abbrev end_at : ℕ → ℕ → List ℕ
end_at place count = if place + 1 == count then 26 ∷ [] else []

last-place : (place : ℕ) (rest : List Recorded) (r : Recorded) → end_at place (length rest) ≡ end_at (suc place) (length (r ∷ rest))
last-place place rest r =
    let same : (place + 1 == length rest) ≡ (suc place + 1 == length (r ∷ rest)) = grind (arith, nat_tests) in
    ap (λ (b : Bool). if b then 26 ∷ [] else []) same

pub line-from : (rate first i : ℕ) (rs : List Recorded) (place : ℕ) (r : Recorded) → slice_get rs place ≡ Some r →
    slice_get (lines_from rate first i rs) place ≡ Some (data_text rate first (i + place) r ++ end_at place (length rs))
line-from rate first i [] place r e = cc
line-from rate first i (x ∷ rest) zero r e =
    let same : x ≡ r = cc in
    ap₂ (λ (n : ℕ) (y : Recorded). Some (data_text rate first n y ++ file_end rest)) at-first same
    ∙ ap (λ (bytes : List ℕ). Some (data_text rate first (i + 0) r ++ bytes)) (ends rest)
  where
    at-first : i ≡ i + 0
    at-first = omega arith

    ends : (ys : List Recorded) → file_end ys ≡ end_at 0 (length (x ∷ ys))
    ends [] = refl
    ends (y ∷ ys) =
        let more : (0 + 1 == length (x ∷ y ∷ ys)) ≡ false = grind (arith, nat_tests) in
        rw more
line-from rate first i (x ∷ rest) (suc place) r e =
    line-from rate first (i + 1) rest place r e
    ∙ ap₂ (λ (n : ℕ) (bytes : List ℕ). Some (data_text rate first n r ++ bytes)) further (last-place place rest x)
  where
    further : i + 1 + place ≡ i + suc place
    further = omega arith
