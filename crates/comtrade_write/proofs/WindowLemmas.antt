-- A window after one more sample.
use Rattle.std.proofs.Common.{◌≡◌, ◌∙◌, ℕ, ◌+◌, ◌*◌, ◌-◌, ◌<◌, ◌≤◌, Bool, true, false, refl, sym, ap, ap₂, arith, List, [], ◌∷◌, ◌++◌, length, length-append, drop, Option, Some, None}
use Rattle.std.specs.Prelude.{◌&&◌, ◌==◌, not, if◌then◌else◌}
use Rattle.std.proofs.lemmas.Bool.{false≢true}
use Rattle.std.proofs.lemmas.Bool.Decides.{nat_tests}
use Rattle.circular_buffer.specs.Buffer.{keep_last}
use Rattle.sample_windows.specs.Numbered.{newest_number, Rises}
use Rattle.comtrade_write.specs.declared.covered.Recorded.{Recorded}
use Rattle.comtrade_write.specs.declared.window.Window.{Window}
use Rattle.comtrade_write.specs.Covered.{number_of_recorded, begins_now, trip_count, trip_number, from_to}
use Rattle.comtrade_write.specs.Kept.{from_number, forgotten, trip_with, is_within}
use Rattle.comtrade_write.specs.KeptWindow.{kept_by, StandsFor}
use Rattle.comtrade_write.proofs.NumberLemmas.{not_below, older-most, older-rises, from_to-kept, from_to-high, from_to-same, length-from_to, from_number-from_to}
use Rattle.comtrade_write.proofs.CoveredLemmas.{trip-counted, trip-most}

keep-all : (most : ℕ) (xs : List Recorded) → length xs ≤ most → keep_last most xs ≡ xs
keep-all most xs h =
    let none : length xs - most ≡ 0 = omega arith in
    ap (λ (k : ℕ). drop k xs) none

keep-one-more : (most : ℕ) (xs : List Recorded) (r : Recorded) → length xs < most → keep_last most (xs ++ r ∷ []) ≡ xs ++ r ∷ []
keep-one-more most xs r h = keep-all most (xs ++ r ∷ []) (rw (length-append xs (r ∷ [])) (omega arith))

-- the number of the trip with the next sample
pub trip-next : (k : ℕ) (r : Recorded) (older : List Recorded) →
    trip_with (trip_number k older) (begins_now (r ∷ older) && (trip_count (r ∷ older) == k)) r.number ≡ trip_number k (r ∷ older)
trip-next k r older = by_trip (trip_number k older) refl
  where
    known : (begins : Bool) (t : ℕ) → k ≤ trip_count older → Some t ≡ (if begins && (trip_count older + (if begins then 1 else 0) == k) then Some r.number else Some t)
    known false t h = refl
    known true t h =
        let more : (trip_count older + 1 == k) ≡ false = grind (arith, nat_tests) in
        rw more

    by_trip : (trip : Option ℕ) → trip_number k older ≡ trip →
        trip_with trip (begins_now (r ∷ older) && (trip_count (r ∷ older) == k)) r.number
        ≡ (if begins_now (r ∷ older) && (trip_count (r ∷ older) == k) then Some r.number else trip)
    by_trip None is = refl
    by_trip (Some t) is = known (begins_now (r ∷ older)) t (trip-counted k t older is)

module _ (n k : ℕ) (r : Recorded) (older : List Recorded) (rises : Rises number_of_recorded (r ∷ older)) where
  abbrev newest : ℕ
  newest = newest_number number_of_recorded older

  older-below : newest ≤ r.number
  older-below = older-most r older rises

  pushed-none : (high : ℕ) → r.number ≤ high →
      keep_last (6 * n + 1) (from_number (r.number - 2 * n) (from_to (newest - 2 * n) newest older) ++ r ∷ []) ≡ from_to (r.number - 2 * n) high (r ∷ older)
  pushed-none high h =
      let low = r.number - 2 * n in
      let forgot : from_number low (from_to (newest - 2 * n) newest older) ≡ from_to low newest older =
      from_number-from_to low (newest - 2 * n) newest older (older-rises r older rises) (omega (arith, older-below)) in
      let same : from_to low newest older ≡ from_to low high older =
      from_to-same low newest high older newest (older-rises r older rises) (omega arith) (omega arith) (omega (arith, older-below)) in
      ap (λ (xs : List Recorded). keep_last (6 * n + 1) (xs ++ r ∷ [])) (forgot ∙ same)
      ∙ keep-one-more (6 * n + 1) (from_to low high older) r (omega (arith, length-from_to low high r older rises))
      ∙ sym (from_to-kept low high r older (omega arith) h)

  pub kept-pushed : (before : Option ℕ) (now : Bool) → trip_number k older ≡ before → is_within (trip_with before now r.number) n r.number ≡ true →
      keep_last (6 * n + 1) (forgotten before (r.number - 2 * n) (kept_by n before older) ++ r ∷ []) ≡ kept_by n (trip_with before now r.number) (r ∷ older)
  kept-pushed None true is within = pushed-none (r.number + 4 * n) (omega arith)
  kept-pushed None false is within = pushed-none r.number (omega arith)
  kept-pushed (Some t) now is within =
      let above : r.number ≤ t + 4 * n = grind (arith, nat_tests) in
      let below : t ≤ r.number = omega (arith, trip-most k t older (older-rises r older rises) is, older-below) in
      let low = t - 2 * n in
      let high = t + 4 * n in
      keep-one-more (6 * n + 1) (from_to low high older) r (omega (arith, length-from_to low high r older rises, above))
      ∙ sym (from_to-kept low high r older (omega (arith, below)) above)

  pub kept-passed : (before : Option ℕ) (now : Bool) → trip_number k older ≡ before → is_within (trip_with before now r.number) n r.number ≡ false →
      forgotten before (r.number - 2 * n) (kept_by n before older) ≡ kept_by n (trip_with before now r.number) (r ∷ older)
  kept-passed None true is beyond = absurd (false≢true (sym beyond ∙ not_below r.number (r.number + 4 * n) (omega arith)))
  kept-passed None false is beyond = absurd (false≢true (sym beyond))
  kept-passed (Some t) now is beyond =
      let above : t + 4 * n < r.number = grind (arith, nat_tests) in
      sym (from_to-high (t - 2 * n) (t + 4 * n) r older above)

-- what a window that stands for the older samples makes of the next one
module _ (n k : ℕ) (next : Recorded) (older : List Recorded) (rises : Rises number_of_recorded (next ∷ older)) (w : Window) (stands : StandsFor n k older w)
    (begins : Bool) (trips : ℕ) (is_begins : begins ≡ (next.trip && not w.stands)) (is_trips : trips ≡ w.trips + (if begins then 1 else 0)) where
  abbrev begins' : Bool
  begins' = begins_now (next ∷ older)

  abbrev now' : Bool
  now' = begins_now (next ∷ older) && (trip_count (next ∷ older) == k)

  begins-is : begins ≡ begins'
  begins-is = is_begins ∙ ap (λ (s : Bool). next.trip && not s) stands.stands

  pub trips-are : trips ≡ trip_count (next ∷ older)
  trips-are = is_trips ∙ ap₂ (λ (x : ℕ) (b : Bool). x + (if b then 1 else 0)) stands.trips begins-is

  now-is : (begins && (trips == w.k)) ≡ now'
  now-is = ap₂ (λ (x y : Bool). x && y) begins-is (ap₂ (λ (x y : ℕ). x == y) trips-are stands.same_k)

  module _ (trip : Option ℕ) (is_trip : trip ≡ trip_with w.trip (begins && (trips == w.k)) next.number) where
    with-now : trip ≡ trip_with (trip_number k older) now' next.number
    with-now = is_trip ∙ ap₂ (λ (before : Option ℕ) (now : Bool). trip_with before now next.number) stands.trip now-is

    pub trip-is : trip ≡ trip_number k (next ∷ older)
    trip-is = with-now ∙ trip-next k next older

    module _ (cycle low room : ℕ) (forgot kept : List Recorded) (within : Bool) (is_cycle' : cycle ≡ w.n) (is_low : low ≡ next.number - 2 * cycle) (is_room : room ≡ w.ring.capacity)
        (is_forgot : forgot ≡ forgotten w.trip low w.ring.items) (is_within' : within ≡ is_within trip cycle next.number)
        (is_kept : kept ≡ (if within then keep_last room (forgot ++ next ∷ []) else forgot)) where
      same-cycle : cycle ≡ n
      same-cycle = is_cycle' ∙ stands.same_n

      forgot-is : forgot ≡ forgotten (trip_number k older) (next.number - 2 * n) (kept_by n (trip_number k older) older)
      forgot-is =
          is_forgot ∙ ap (λ (t : Option ℕ). forgotten t low w.ring.items) stands.trip
          ∙ ap₂ (λ (l : ℕ) (items : List Recorded). forgotten (trip_number k older) l items)
          (is_low ∙ ap (λ (c : ℕ). next.number - 2 * c) same-cycle) stands.items

      within-is : is_within (trip_with (trip_number k older) now' next.number) n next.number ≡ within
      within-is = sym (is_within' ∙ ap₂ (λ (t : Option ℕ) (c : ℕ). is_within t c next.number) with-now same-cycle)

      by_within : (so : Bool) → within ≡ so →
          (if so then keep_last (6 * n + 1) (forgotten (trip_number k older) (next.number - 2 * n) (kept_by n (trip_number k older) older) ++ next ∷ [])
          else forgotten (trip_number k older) (next.number - 2 * n) (kept_by n (trip_number k older) older))
          ≡ kept_by n (trip_with (trip_number k older) now' next.number) (next ∷ older)
      by_within true e = kept-pushed n k next older rises (trip_number k older) now' refl (within-is ∙ e)
      by_within false e = kept-passed n k next older rises (trip_number k older) now' refl (within-is ∙ e)

      pub items-are : kept ≡ kept_by n (trip_number k (next ∷ older)) (next ∷ older)
      items-are =
          is_kept
          ∙ ap₂ (λ (c : ℕ) (xs : List Recorded). if within then keep_last c (xs ++ next ∷ []) else xs) (is_room ∙ stands.room) forgot-is
          ∙ by_within within refl
          ∙ ap (λ (t : Option ℕ). kept_by n t (next ∷ older)) (trip-next k next older)
