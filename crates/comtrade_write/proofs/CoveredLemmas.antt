-- Trips of the recorded samples, and what a record covers.
use Rattle.std.proofs.Common.{◌≡◌, ℕ, ◌+◌, ◌<◌, ◌≤◌, inl, inr, Bool, true, false, refl, arith, List, [], ◌∷◌, length, Some, None}
use Rattle.std.specs.Prelude.{◌&&◌, ◌==◌, filter, if◌then◌else◌}
use Rattle.std.proofs.lemmas.Bool.{cases_eq}
use Rattle.std.proofs.lemmas.Bool.Decides.{nat_tests}
use Rattle.sample_windows.specs.Numbered.{newest_number, Rises}
use Rattle.comtrade_write.specs.declared.covered.Recorded.{Recorded}
use Rattle.comtrade_write.specs.Covered.{number_of_recorded, begins_now, trip_count, trip_number}
use Rattle.comtrade_write.proofs.NumberLemmas.{is_between, between, older-most, older-rises}

-- a trip that has begun is counted
pub trip-counted : (k t : ℕ) (rs : List Recorded) → trip_number k rs ≡ Some t → k ≤ trip_count rs
trip-counted k t [] e = cc
trip-counted k t (r ∷ older) e = step (begins_now (r ∷ older)) e (λ f. trip-counted k t older f)
  where
    step : (b : Bool) → (if b && (trip_count older + (if b then 1 else 0) == k) then Some r.number else trip_number k older) ≡ Some t →
        (trip_number k older ≡ Some t → k ≤ trip_count older) → k ≤ trip_count older + (if b then 1 else 0)
    step false f before = omega (arith, before f)
    step true f before =
        elim (cases_eq (trip_count older + 1) k) [
          | inl same ↦ omega arith
          | inr other ↦ omega (arith, before (rw (differ (trip_count older + 1) k other) at f))
        ]
      where
        differ : (a b : ℕ) → (a ≡ b → ⊥) → (a == b) ≡ false
        differ a b h = grind (arith, nat_tests)

-- and one that has not isn't
pub trip-uncounted : (k : ℕ) (rs : List Recorded) → 1 ≤ k → trip_number k rs ≡ None → trip_count rs < k
trip-uncounted k [] some e = omega arith
trip-uncounted k (r ∷ older) some e = step (begins_now (r ∷ older)) e (λ f. trip-uncounted k older some f)
  where
    step : (b : Bool) → (if b && (trip_count older + (if b then 1 else 0) == k) then Some r.number else trip_number k older) ≡ None →
        (trip_number k older ≡ None → trip_count older < k) → trip_count older + (if b then 1 else 0) < k
    step false f before = omega (arith, before f)
    step true f before = by_test (trip_count older + 1 == k) refl f
      where
        by_test : (t : Bool) → (trip_count older + 1 == k) ≡ t → (if t then Some r.number else trip_number k older) ≡ None → trip_count older + 1 < k
        by_test true is g = cc
        by_test false is g =
            let here = before g in
            grind (arith, nat_tests)

-- a trip begins at one of the samples
pub trip-most : (k t : ℕ) (rs : List Recorded) → Rises number_of_recorded rs → trip_number k rs ≡ Some t → t ≤ newest_number number_of_recorded rs
trip-most k t [] rises e = cc
trip-most k t (r ∷ older) rises e =
    step (begins_now (r ∷ older) && (trip_count (r ∷ older) == k)) e (λ f. trip-most k t older (older-rises r older rises) f)
  where
    step : (b : Bool) → (if b then Some r.number else trip_number k older) ≡ Some t →
        (trip_number k older ≡ Some t → t ≤ newest_number number_of_recorded older) → t ≤ r.number
    step true f before = let same : r.number ≡ t = cc in omega arith
    step false f before = omega (arith, before f, older-most r older rises)

-- which its record covers
pub trip-covered : (k t low high : ℕ) (rs : List Recorded) → trip_number k rs ≡ Some t → low ≤ t → t ≤ high → 0 < length (filter (is_between low high) rs)
trip-covered k t low high [] e below above = cc
trip-covered k t low high (r ∷ older) e below above =
    step (begins_now (r ∷ older) && (trip_count (r ∷ older) == k)) e (λ f. trip-covered k t low high older f below above)
  where
    longer : (b : Bool) (rest : List Recorded) → 0 < length rest → 0 < length (if b then r ∷ rest else rest)
    longer true rest some = omega arith
    longer false rest some = some

    step : (b : Bool) → (if b then Some r.number else trip_number k older) ≡ Some t →
        (trip_number k older ≡ Some t → 0 < length (filter (is_between low high) older)) → 0 < length (filter (is_between low high) (r ∷ older))
    step true f before =
        let same : r.number ≡ t = cc in
        rw (between low high r (omega (arith, same)) (omega (arith, same))) (omega arith)
    step false f before = longer (is_between low high r) (filter (is_between low high) older) (before f)
