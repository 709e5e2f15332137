-- A window of numbers against the run of numbers.
use Rattle.std.proofs.Common.{drop, eqb, one-add, ◌≡◌, ◌≢◌, ℕ, zero, suc, ◌+◌, ◌-◌, ◌<◌, Bool, true, false, cond, leb, ◌&&◌, refl, sym, ap, ◌∙◌, arith, List, [], ◌∷◌, inl, inr}
use Rattle.std.proofs.lemmas.Bool.{cases_Bool, cases_eq, eq-eqb, ne_eqb, cond-true, cond-false, and_from, and_left, and_right, le-leb, lt-leb}
use Rattle.std.proofs.lemmas.Bool.Decides.{nat_tests}
use Rattle.std.specs.List.{prefix_len}
use Rattle.sample_windows.specs.Windows.{at_each, each_of_last}
use Rattle.sample_windows.proofs.WindowLemmas.{each_of_last-run}
use Rattle.sample_windows.specs.Below.{all_below}
use Rattle.sample_windows.specs.Numbered.{newest_number, up_to, Rises, held_for, run_of}
use Rattle.sample_windows.proofs.BelowLemmas.{all_below_same, and_true, leb-suc-suc}

module _ {X : Type 0} (number : X → ℕ) where
  pub Rises-older : (x : X) (older : List X) → Rises number (x ∷ older) → Rises number older
  Rises-older x [] r = tt
  Rises-older x (y ∷ older) r = r.1

  -- the samples up to a number that the newest one doesn't have
  pub up_to-older : (n : ℕ) (x : X) (older : List X) → number x ≢ n → up_to number n (x ∷ older) ≡ up_to number n older
  unfolding up_to
  up_to-older n x older ne = cond-false _ _ _ (ne_eqb _ _ ne)

  pub up_to-newest : (x : X) (older : List X) → up_to number (number x) (x ∷ older) ≡ x ∷ older
  unfolding up_to
  up_to-newest x older = cond-true _ _ _ (eq-eqb (number x) (number x) refl)

  -- no sample has a number above the newest
  pub up_to_above : (n : ℕ) (samples : List X) → Rises number samples → newest_number number samples < n → up_to number n samples ≡ []
  unfolding up_to
  up_to_above n [] r h = refl
  up_to_above n (x ∷ []) r h = up_to-older n x [] (λ e. omega arith)
  up_to_above n (x ∷ y ∷ older) r h = up_to-older n x (y ∷ older) (λ e. omega arith) ∙ up_to_above n (y ∷ older) r.1 (omega (arith, r.0))

  -- where the newest number doesn't follow, no sample has the number before it
  pub missing_before : (x : X) (older : List X) → Rises number (x ∷ older) → number x ≢ newest_number number older + 1 → up_to number (number x - 1) older ≡ []
  unfolding up_to
  missing_before x [] r gap = refl
  missing_before x (y ∷ older) r gap = up_to_above (number x - 1) (y ∷ older) r.1 (omega (arith, r.0, gap))

  -- within a run of numbers the sample k numbers back is the one k places back
  pub up_to-in_run : (fact : List X → Bool) (k : ℕ) (samples : List X) → k < run_of number fact samples →
      up_to number (newest_number number samples - k) samples ≡ drop k samples
  unfolding run_of
  up_to-in_run fact k [] h = absurd (omega arith)
  up_to-in_run fact zero (x ∷ older) h = let e : number x - 0 ≡ number x = omega arith in rw e (up_to-newest x older)
  up_to-in_run fact (suc k) (x ∷ older) h = elim (cases_Bool (fact (x ∷ older))) [
    | inr e ↦ (let none : suc k < 0 = rw e at h in absurd (omega arith))
    | inl e ↦ elim (cases_eq (number x) (newest_number number older + 1)) [
      | inr gap ↦ (let none : suc k < 1 = rw (e, ne_eqb (number x) (newest_number number older + 1) gap) at h in absurd (omega arith))
      | inl next ↦
          (let more : suc k < suc (run_of number fact older) = rw (e, eq-eqb (number x) (newest_number number older + 1) next) at h in
          let back : number x - suc k ≡ newest_number number older - k = omega (arith, next) in
          let ne : number x ≢ newest_number number older - k = λ q. omega (arith, next) in
          rw back (up_to-older (newest_number number older - k) x older ne ∙ up_to-in_run fact k older (omega arith)))
    ]
  ]

  module _ (fact : List X → Bool) (never : fact [] ≡ false) where
    at_newest : (x : X) (older : List X) → fact (up_to number (number x - 0) (x ∷ older)) ≡ fact (x ∷ older)
    at_newest x older =
        let e : number x - 0 ≡ number x = omega arith in rw e (ap fact (up_to-newest x older))

    -- where the newest number follows the one before it
    pub held_for-next : (k : ℕ) (x : X) (older : List X) → number x ≡ newest_number number older + 1 →
        held_for number (suc k) fact (x ∷ older) ≡ (fact (x ∷ older) && held_for number k fact older)
    unfolding held_for all_below
    held_for-next k x older next =
        let before : (i : ℕ) → i < k → fact (up_to number (number x - suc i) (x ∷ older)) ≡ fact (up_to number (newest_number number older - i) older) = λ i h.
        (let e : number x - suc i ≡ newest_number number older - i = omega arith in
        let ne : number x ≢ newest_number number older - i = λ q. omega arith in
        rw e (ap fact (up_to-older (newest_number number older - i) x older ne))) in
        let same : leb (suc k) (number x + 1) ≡ leb k (newest_number number older + 1) = grind (arith, nat_tests) in
        let rest = all_below_same k (λ i. fact (up_to number (number x - suc i) (x ∷ older))) (λ i. fact (up_to number (newest_number number older - i) older)) before in
        rw (same, at_newest x older, rest) (swapped (leb k (newest_number number older + 1)) (fact (x ∷ older)) _)
      where
        swapped : (a b c : Bool) → (a && (b && c)) ≡ (b && (a && c))
        swapped a b c = elim a as (λ a. (a && (b && c)) ≡ (b && (a && c))) [
          | true ↦ refl
          | false ↦ sym (and_right b false refl)
        ]

    -- where the number before the newest is missing, nothing is held for longer than one
    pub held_for-gap : (k : ℕ) (x : X) (older : List X) → Rises number (x ∷ older) → number x ≢ newest_number number older + 1 →
        held_for number (suc k) fact (x ∷ older) ≡ (fact (x ∷ older) && leb k 0)
    unfolding held_for all_below
    held_for-gap zero x older r gap = rw at_newest (and_true (leb 1 (number x + 1)) _ (le-leb 1 (number x + 1) (omega arith)))
    held_for-gap (suc k) x older r gap =
        rw (lt-leb (suc k) 0 (omega arith)) (elim (cases_eq (number x) 0) [
          | inl z ↦ and_left _ _ (lt-leb (suc (suc k)) (number x + 1) (omega arith)) ∙ sym (and_right _ _ refl)
          | inr nz ↦
              (let ne : number x ≢ number x - 1 = λ q. omega arith in
              let none : fact (up_to number (number x - 1) (x ∷ older)) ≡ false =
              ap fact (up_to-older (number x - 1) x older ne ∙ missing_before x older r gap) ∙ never in
              and_right _ _ (and_right _ _ (and_left _ _ none)) ∙ sym (and_right _ _ refl))
        ])

    -- the fact holds at each of the last k numbers exactly where the run is at least k long
    pub held_for-run : (k : ℕ) (samples : List X) → Rises number samples → held_for number k fact samples ≡ leb k (run_of number fact samples)
    unfolding held_for run_of all_below up_to
    held_for-run zero samples r = and_from _ _ (le-leb 0 (newest_number number samples + 1) (omega arith)) refl ∙ sym (le-leb 0 (run_of number fact samples) (omega arith))
    held_for-run (suc k) [] r = and_right _ _ (and_left _ _ never) ∙ sym (lt-leb (suc k) 0 (omega arith))
    held_for-run (suc k) (x ∷ older) r = elim (cases_eq (number x) (newest_number number older + 1)) [
      | inl next ↦ held_for-next k x older next ∙ rw (held_for-run k older (Rises-older x older r)) (step (fact (x ∷ older)) _ k (run_of number fact older) (eq-eqb _ _ next))
      | inr gap ↦ held_for-gap k x older r gap ∙ alone (fact (x ∷ older)) _ k (run_of number fact older) (ne_eqb _ _ gap)
    ]
      where
        step : (f b : Bool) (k r : ℕ) → b ≡ true → (f && leb k r) ≡ leb (suc k) (cond f (cond b (suc r) 1) 0)
        step false b k r e = sym (lt-leb (suc k) 0 (omega arith))
        step true b k r e = rw e (sym (leb-suc-suc k r))

        alone : (f b : Bool) (k r : ℕ) → b ≡ false → (f && leb k 0) ≡ leb (suc k) (cond f (cond b (suc r) 1) 0)
        alone false b k r e = sym (lt-leb (suc k) 0 (omega arith))
        alone true b k r e = rw e (sym (leb-suc-suc k 0))

  -- where a fact never holds after a gap, its run of numbers is its run of samples
  module _ {Y : Type 0} (fact : List X → Bool) (said : List X → Y) (test : Y → Bool) (says : (samples : List X) → test (said samples) ≡ fact samples)
      (breaks : (x y : X) (older : List X) → Rises number (x ∷ y ∷ older) → number x ≢ number y + 1 → fact (x ∷ y ∷ older) ≡ false) where
    pub run_of-at_each : (samples : List X) → Rises number samples → run_of number fact samples ≡ prefix_len test (at_each said samples)
    unfolding run_of at_each
    run_of-at_each [] r = refl
    run_of-at_each (x ∷ []) r = rw says (one (fact (x ∷ [])) (eqb (number x) 1))
      where
        one : (f b : Bool) → ◌≡◌ {A = ℕ} (cond f (cond b 1 1) 0) (cond f 1 0)
        one true true = refl
        one true false = refl
        one false b = refl
    run_of-at_each (x ∷ y ∷ older) r = elim (cases_eq (number x) (number y + 1)) [
      | inl next ↦ rw (says, eq-eqb (number x) (number y + 1) next, run_of-at_each (y ∷ older) r.1) (simp one-add)
      | inr gap ↦ rw (says, breaks x y older r gap) refl
    ]

    -- a window of numbers is a window of samples
    pub held_for-at_each : (k : ℕ) (samples : List X) → fact [] ≡ false → Rises number samples → held_for number k fact samples ≡ each_of_last k test (at_each said samples)
    held_for-at_each k samples never r =
        held_for-run fact never k samples r ∙ ap (leb k) (run_of-at_each samples r) ∙ sym (each_of_last-run k test (at_each said samples))
