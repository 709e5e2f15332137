-- The currents before a fault, as the lookback answers them, are those of the definition.
use Rattle.std.proofs.Common.{◌≡◌, ◌∙◌, ℕ, zero, suc, ◌+◌, ◌*◌, ◌<◌, ◌≤◌, Bool, true, false, cond, ◌==◌, refl, sym, ap, ap₂, arith, List, [], ◌∷◌, length, drop, take, Option, Some, None, inl, inr}
use Rattle.std.specs.Prelude.{slice_get, if◌then◌else◌}
use Rattle.std.specs.Option.{option_map, option_flatten}
use Rattle.std.proofs.lemmas.Bool.{cases_lt, cases_eq, le-leb, lt-leb, eq-eqb, ne_eqb}
use Rattle.std.proofs.lemmas.List.{length-take}
use Rattle.std.proofs.lemmas.Option.{slice_get_past}
use Rattle.sample_windows.specs.Windows.{at_each}
use Rattle.sample_windows.specs.Numbered.{Rises, newest_number, held_for, run_of}
use Rattle.sample_windows.proofs.NumberedLemmas.{held_for-run, up_to-in_run}
use Rattle.sample_windows.proofs.RunLemmas.{of_run-next, of_run-gap}
use Rattle.relay_num.specs.declared.Cx.{Cx}
use Rattle.relay_settings.specs.declared.types.Common.{Common}
use Rattle.relay_settings.specs.Settings.{PlainLine}
use Rattle.line_relay.specs.LineSamples.{Numbered, number_of_sample, newest_of}
use Rattle.line_relay.specs.Phasors.{phasors_of, phasor_of, eight}
use Rattle.line_relay.specs.Measured.{measured}
use Rattle.line_relay.specs.Guards.{is_ready_at, measured_at}
use Rattle.line_relay.specs.Inside.{loop_current}
use Rattle.fault_locate.specs.Locating.{is_taken, current_at, current_before}
use Rattle.fault_locate.specs.KeptLookback.{run_with, kept_before, currents_at, currents_of_run}
use Rattle.fault_locate.specs.KeptWaiting.{current_by}
use Rattle.fault_locate.specs.NextSample.{follows_last}

-- what is said some places back in a run
said_back : {X Y : Type 0} (said : List X → Y) (r k : ℕ) (samples : List X) → k < r → k < length samples → slice_get (take r (at_each said samples)) k ≡ Some (said (drop k samples))
unfolding at_each
said_back said zero k samples h l = absurd (omega arith)
said_back said (suc r) k [] h l = absurd (omega arith)
said_back said (suc r) zero (x ∷ older) h l = refl
said_back said (suc r) (suc k) (x ∷ older) h l = said_back said r k older (omega arith) (omega arith)

run-short : (samples : List Numbered) → run_of number_of_sample is_taken samples ≤ length samples
unfolding run_of
run-short [] = omega arith
run-short (x ∷ older) = either (number_of_sample x == newest_number number_of_sample older + 1) (run_of number_of_sample is_taken older) (length older) (run-short older)
  where
    either : (b : Bool) (r n : ℕ) → r ≤ n → cond b (suc r) 1 ≤ suc n
    either true r n h = omega arith
    either false r n h = omega arith

module _ (common : Common) (settings : PlainLine) where
  -- the currents kept at the newest sample are those of its phasors
  currents-formed : (past : List Numbered) → option_map (λ ps. (measured ps).currents) (phasors_of common.n settings.mimic past) ≡ currents_at common settings past
  unfolding measured_at
  currents-formed past = either (is_ready_at common settings past)
    where
      either : (b : Bool) → option_map (λ ps. (measured ps).currents) (if b then Some (eight (phasor_of common.n settings.mimic past)) else None)
          ≡ (if b then Some (measured (eight (phasor_of common.n settings.mimic past))).currents else None)
      either true = refl
      either false = refl

  -- the run goes on, or begins anew
  run-next : (s : Numbered) (past : List Numbered) → run_with (follows_last (newest_of past) s.number) (currents_at common settings (s ∷ past)) (currents_of_run common settings past)
      ≡ currents_of_run common settings (s ∷ past)
  unfolding run_of at_each
  run-next s [] = elim (cases_eq s.number 1) [
    | inl e ↦ sym (of_run-next number_of_sample is_taken (currents_at common settings) s [] refl e)
    | inr e ↦ sym (of_run-gap number_of_sample is_taken (currents_at common settings) s [] refl e)
  ]
  run-next s (p ∷ older) = elim (cases_eq s.number (p.number + 1)) [
    | inl e ↦
        ap (λ b. run_with b (currents_at common settings (s ∷ p ∷ older)) (currents_of_run common settings (p ∷ older))) (eq-eqb (p.number + 1) s.number (sym e))
        ∙ sym (of_run-next number_of_sample is_taken (currents_at common settings) s (p ∷ older) refl e)
    | inr e ↦
        ap (λ b. run_with b (currents_at common settings (s ∷ p ∷ older)) (currents_of_run common settings (p ∷ older))) (ne_eqb (p.number + 1) s.number (λ q. e (sym q)))
        ∙ sym (of_run-gap number_of_sample is_taken (currents_at common settings) s (p ∷ older) refl e)
  ]

  pub run-is : (s : Numbered) (past : List Numbered) (follows : Bool) (number : ℕ) (phasors currents : Option (List (Cx))) → number ≡ s.number →
      follows ≡ follows_last (newest_of past) number → phasors ≡ phasors_of common.n settings.mimic (s ∷ past) → currents ≡ option_map (λ ps. (measured ps).currents) phasors →
      run_with follows currents (currents_of_run common settings past) ≡ currents_of_run common settings (s ∷ past)
  run-is s past follows number phasors currents same f formed taken =
      ap₂ (λ b i. run_with b i (currents_of_run common settings past)) (f ∙ ap (follows_last (newest_of past)) same)
      (taken ∙ ap (option_map (λ ps. (measured ps).currents)) formed ∙ currents-formed (s ∷ past))
      ∙ run-next s past

  -- a loop's current by what was kept of a sample
  current-kept : (lp : ℕ) (past : List Numbered) → option_map (λ i. current_by settings i lp) (currents_at common settings past)
      ≡ (if is_ready_at common settings past then Some (current_at common settings lp past) else None)
  unfolding loop_current current_by
  current-kept lp past = either (is_ready_at common settings past)
    where
      either : (b : Bool) → option_map (λ i. current_by settings i lp) (if b then Some (measured_at common settings past).currents else None)
          ≡ (if b then Some (loop_current settings (measured_at common settings past) lp) else None)
      either true = refl
      either false = refl

  -- two cycles before
  pub before-is : (lp : ℕ) (past : List Numbered) → Rises number_of_sample past →
      option_map (λ i. current_by settings i lp) (kept_before (2 * common.n) (currents_of_run common settings past)) ≡ current_before common settings lp past
  before-is lp past r =
      let held = held_for-run number_of_sample is_taken refl (2 * common.n + 1) past r in
      elim (cases_lt (2 * common.n) (run_of number_of_sample is_taken past)) [
        | inl l ↦
            (let all : held_for number_of_sample (2 * common.n + 1) is_taken past ≡ true = held ∙ le-leb (2 * common.n + 1) (run_of number_of_sample is_taken past) (omega (arith, l)) in
            let short : 2 * common.n < length past = omega (arith, l, run-short past) in
            ap (λ o. option_map (λ i. current_by settings i lp) (option_flatten o)) (said_back (currents_at common settings) (run_of number_of_sample is_taken past) (2 * common.n) past l short)
            ∙ current-kept lp (drop (2 * common.n) past)
            ∙ sym (rw (all, up_to-in_run number_of_sample is_taken (2 * common.n) past l) refl))
        | inr g ↦
            (let broken : held_for number_of_sample (2 * common.n + 1) is_taken past ≡ false = held ∙ lt-leb (2 * common.n + 1) (run_of number_of_sample is_taken past) (omega (arith, g)) in
            let few : length (currents_of_run common settings past) ≤ 2 * common.n = omega (arith, g, length-take (run_of number_of_sample is_taken past) (at_each (currents_at common settings) past)) in
            ap (λ o. option_map (λ i. current_by settings i lp) (option_flatten o)) (slice_get_past (currents_of_run common settings past) (2 * common.n) few)
            ∙ sym (rw broken refl))
      ]
