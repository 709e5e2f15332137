-- What is said at the samples of a run, which is what a part has taken since it was last cleared.
use Rattle.std.proofs.Common.{drop, take, one-add, ◌≡◌, ◌≢◌, ℕ, zero, suc, ◌+◌, ◌-◌, ◌<◌, ◌≤◌, Bool, true, false, leb, ◌&&◌, refl, sym, ap, ◌∙◌, arith, List, [], ◌∷◌, inl, inr}
use Rattle.std.proofs.lemmas.Bool.{cases_Bool, cases_eq, eq-eqb, ne_eqb, and_left, false≢true}
use Rattle.std.specs.List.{prefix_len}
use Rattle.std.proofs.lemmas.List.{drop-take, length-take}
use Rattle.std.proofs.lemmas.List.Sums.{prefix_len-le-length}
use Rattle.sample_windows.specs.Windows.{at_each, each_of_last}
use Rattle.sample_windows.specs.Numbered.{newest_number, up_to, Rises, held_for, run_of, of_run}
use Rattle.sample_windows.proofs.WindowLemmas.{each_of_last-run, drop-at_each}
use Rattle.sample_windows.proofs.NumberedLemmas.{Rises-older, up_to-in_run, held_for-run}

module _ {X : Type 0} (number : X → ℕ) where
  pub Rises-drop : (k : ℕ) (samples : List X) → Rises number samples → Rises number (drop k samples)
  Rises-drop zero samples r = r
  Rises-drop (suc k) [] r = tt
  Rises-drop (suc k) (x ∷ older) r = Rises-drop k older (Rises-older number x older r)

  -- the run that is left some samples back
  pub run_of-drop : (fact : List X → Bool) (k : ℕ) (samples : List X) → k < run_of number fact samples →
      run_of number fact (drop k samples) ≡ run_of number fact samples - k
  unfolding run_of
  run_of-drop fact zero samples h = omega arith
  run_of-drop fact (suc k) [] h = absurd (omega arith)
  run_of-drop fact (suc k) (x ∷ older) h = elim (cases_Bool (fact (x ∷ older))) [
    | inr e ↦ (let none : suc k < 0 = rw e at h in absurd (omega arith))
    | inl e ↦ elim (cases_eq (number x) (newest_number number older + 1)) [
      | inr gap ↦ (let none : suc k < 1 = rw (e, ne_eqb (number x) (newest_number number older + 1) gap) at h in absurd (omega arith))
      | inl next ↦
          (let more : suc k < suc (run_of number fact older) = rw (e, eq-eqb (number x) (newest_number number older + 1) next) at h in
          rw (e, eq-eqb (number x) (newest_number number older + 1) next) (omega (arith, run_of-drop fact k older (omega arith))))
    ]
  ]

  module _ {Y : Type 0} (ready : List X → Bool) (said : List X → Y) where
    -- how a run goes on and ends
    pub of_run-next : (x : X) (older : List X) → ready (x ∷ older) ≡ true → number x ≡ newest_number number older + 1 →
        of_run number ready said (x ∷ older) ≡ said (x ∷ older) ∷ of_run number ready said older
    unfolding run_of at_each
    of_run-next x older e next = rw (e, eq-eqb (number x) (newest_number number older + 1) next) refl

    pub of_run-gap : (x : X) (older : List X) → ready (x ∷ older) ≡ true → number x ≢ newest_number number older + 1 →
        of_run number ready said (x ∷ older) ≡ said (x ∷ older) ∷ []
    unfolding run_of at_each
    of_run-gap x older e gap = rw (e, ne_eqb (number x) (newest_number number older + 1) gap) refl

    pub of_run-none : (samples : List X) → ready samples ≡ false → of_run number ready said samples ≡ []
    unfolding run_of at_each
    of_run-none [] e = refl
    of_run-none (x ∷ older) e = rw e refl

    -- where nothing is ready after a gap, a ready sample goes on with what was taken before
    pub of_run-ready : ((x y : X) (older : List X) → Rises number (x ∷ y ∷ older) → number x ≢ number y + 1 → ready (x ∷ y ∷ older) ≡ false) →
        (x : X) (older : List X) → Rises number (x ∷ older) → ready (x ∷ older) ≡ true →
        of_run number ready said (x ∷ older) ≡ said (x ∷ older) ∷ of_run number ready said older
    unfolding run_of at_each
    of_run-ready breaks x [] r e = elim (cases_eq (number x) 1) [
      | inl next ↦ of_run-next x [] e next
      | inr gap ↦ of_run-gap x [] e gap
    ]
    of_run-ready breaks x (y ∷ older) r e = elim (cases_eq (number x) (number y + 1)) [
      | inl next ↦ of_run-next x (y ∷ older) e next
      | inr gap ↦ absurd (false≢true (sym (breaks x y older r gap) ∙ e))
    ]

    -- the run some samples back
    pub of_run-drop : (k : ℕ) (samples : List X) → k < run_of number ready samples →
        of_run number ready said (drop k samples) ≡ drop k (of_run number ready said samples)
    of_run-drop k samples h =
        let whole : k + (run_of number ready samples - k) ≡ run_of number ready samples = omega arith in
        rw (run_of-drop ready k samples h, ← drop-at_each said k samples)
        (sym (drop-take k (run_of number ready samples - k) (at_each said samples)) ∙ ap (λ n. drop k (take n (at_each said samples))) whole)

    -- a run of a test within the run
    pub run_of-within : (test : Y → Bool) (samples : List X) →
        run_of number (λ s. ready s && test (said s)) samples ≡ prefix_len test (of_run number ready said samples)
    unfolding run_of at_each
    run_of-within test [] = refl
    run_of-within test (x ∷ older) = elim (cases_Bool (ready (x ∷ older))) [
      | inr e ↦ rw e refl
      | inl e ↦ elim (cases_eq (number x) (newest_number number older + 1)) [
        | inl next ↦ rw (e, eq-eqb (number x) (newest_number number older + 1) next, run_of-within test older) (simp one-add)
        | inr gap ↦ rw (e, ne_eqb (number x) (newest_number number older + 1) gap) refl
      ]
    ]

    pub run_of-within-le : (test : Y → Bool) (samples : List X) → run_of number (λ s. ready s && test (said s)) samples ≤ run_of number ready samples
    run_of-within-le test samples =
        omega (arith, run_of-within test samples, prefix_len-le-length test (of_run number ready said samples), length-take (run_of number ready samples) (at_each said samples))

    -- a window of numbers within the run
    pub held_for-within : (test : Y → Bool) (n k : ℕ) (samples : List X) → ready [] ≡ false → Rises number samples → k < run_of number ready samples →
        held_for number n (λ s. ready s && test (said s)) (up_to number (newest_number number samples - k) samples) ≡ each_of_last n test (drop k (of_run number ready said samples))
    held_for-within test n k samples never r h =
        ap (held_for number n (λ s. ready s && test (said s))) (up_to-in_run number ready k samples h)
        ∙ held_for-run number (λ s. ready s && test (said s)) (and_left _ _ never) n (drop k samples) (Rises-drop k samples r)
        ∙ ap (leb n) (run_of-within test (drop k samples) ∙ ap (prefix_len test) (of_run-drop k samples h))
        ∙ sym (each_of_last-run n test (drop k (of_run number ready said samples)))

  -- what is said of each sample has rising numbers too
  pub Rises-at_each : {Y : Type 0} (said : List X → Y) (told : Y → ℕ) → ((x : X) (older : List X) → told (said (x ∷ older)) ≡ number x) →
      (samples : List X) → Rises number samples → Rises told (at_each said samples)
  unfolding at_each
  Rises-at_each said told e [] r = tt
  Rises-at_each said told e (x ∷ []) r = tt
  Rises-at_each said told e (x ∷ y ∷ older) r = (omega (arith, e x (y ∷ older), e y older, r.0), Rises-at_each said told e (y ∷ older) r.1)
