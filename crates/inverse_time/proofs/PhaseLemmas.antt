-- One more sample of a phase, and what holds of it then.
use Rattle.std.proofs.Common.{◌≡◌, ◌≢◌, ℕ, ◌+◌, ◌≤◌, Bool, true, false, ◌&&◌, refl, sym, ap, ap₂, ◌∙◌, List, [], ◌∷◌, Some, None, inl, inr}
use Rattle.std.specs.Prelude.{if◌then◌else◌, nat_le}
use Rattle.std.specs.List.{sum}
use Rattle.std.specs.Option.{option_map}
use Rattle.std.proofs.lemmas.Bool.{cases_Bool, cases_eq, and_left, cond-true, cond-false, false≢true}
use Rattle.sample_windows.specs.Numbered.{newest_number, Rises}
use Rattle.sample_windows.proofs.RunLemmas.{of_run-next, of_run-gap, of_run-ready, of_run-none}
use Rattle.relay_num.specs.declared.Cx.{Cx}
use Rattle.relay_settings.specs.declared.types.Common.{Common}
use Rattle.relay_settings.specs.Settings.{PlainLine}
use Rattle.loop_impedance.specs.Loops.{item}
use Rattle.line_relay.specs.LineSamples.{Numbered, number_of_sample}
use Rattle.line_relay.specs.Phasors.{phasors_of, phasor_of, eight}
use Rattle.line_relay.specs.Guards.{is_ready_at}
use Rattle.line_relay.specs.KeptGuards.{next_run}
use Rattle.line_relay.proofs.NextLemmas.{ready_none, ready_breaks}
use Rattle.inverse_time.specs.declared.curve.Dial.{Dial}
use Rattle.inverse_time.specs.declared.event.PhaseFacts.{PhaseFacts}
use Rattle.inverse_time.specs.declared.element.Element.{Element}
use Rattle.inverse_time.specs.Multiples.{multiple_of}
use Rattle.inverse_time.specs.InverseCurves.{excess_of, is_enough}
use Rattle.inverse_time.specs.Overcurrents.{is_picked_at, excess_at, excesses_at}
use Rattle.inverse_time.specs.BackupEvents.{phase_facts}
use Rattle.inverse_time.specs.KeptElement.{has_any, excess_by, StandsFor}

next_if : (b : Bool) (x : ℕ) (run : List ℕ) → next_run (if b then Some x else None) run ≡ (if b then x ∷ run else [])
next_if true x run = refl
next_if false x run = refl

abbrev picks : Dial → ℕ → Cx → Bool
picks dial n p = nat_le 1000000 (multiple_of p n dial.pickup)

abbrev run_by : Dial → ℕ → Bool → Cx → List ℕ → List ℕ
run_by dial n ready p run = if ready && picks dial n p then excess_of dial.curve (multiple_of p n dial.pickup) ∷ run else []

next_ready : (dial : Dial) (n phase : ℕ) (ready : Bool) (ps : List Cx) (run : List ℕ) →
    next_run (excess_by dial n (option_map (item phase) (if ready then Some ps else None))) run ≡ run_by dial n ready (item phase ps) run
next_ready dial n phase true ps run = next_if (picks dial n (item phase ps)) _ run
next_ready dial n phase false ps run = refl

module _ (common : Common) (settings : PlainLine) (dial : Dial) (cycle : 2 ≤ common.n) (phase : ℕ) where
  picked_breaks : (x y : Numbered) (older : List Numbered) → Rises number_of_sample (x ∷ y ∷ older) → number_of_sample x ≢ number_of_sample y + 1 →
      is_picked_at common settings dial phase (x ∷ y ∷ older) ≡ false
  picked_breaks x y older r gap = and_left _ _ (ready_breaks common settings cycle x y older r gap)

  excesses_are : (s : Numbered) (past : List Numbered) → Rises number_of_sample (s ∷ past) →
      excesses_at common settings dial phase (s ∷ past)
      ≡ (if is_picked_at common settings dial phase (s ∷ past) then excess_at common settings dial phase (s ∷ past) ∷ excesses_at common settings dial phase past else [])
  excesses_are s past r = elim (cases_Bool (is_picked_at common settings dial phase (s ∷ past))) [
    | inl e ↦ of_run-ready number_of_sample (is_picked_at common settings dial phase) (excess_at common settings dial phase) picked_breaks s past r e ∙ sym (cond-true _ _ _ e)
    | inr e ↦ of_run-none number_of_sample (is_picked_at common settings dial phase) (excess_at common settings dial phase) (s ∷ past) e ∙ sym (cond-false _ _ _ e)
  ]

  -- the run goes on with what the sample adds, or ends
  pub excesses_next : (s : Numbered) (past : List Numbered) → Rises number_of_sample (s ∷ past) →
      item phase (eight (phasor_of common.n settings.mimic (s ∷ past))) ≡ phasor_of common.n settings.mimic (s ∷ past) phase →
      next_run (excess_by dial common.n (option_map (item phase) (phasors_of common.n settings.mimic (s ∷ past)))) (excesses_at common settings dial phase past)
      ≡ excesses_at common settings dial phase (s ∷ past)
  excesses_next s past r here =
      next_ready dial common.n phase (is_ready_at common settings (s ∷ past)) (eight (phasor_of common.n settings.mimic (s ∷ past))) (excesses_at common settings dial phase past)
      ∙ ap (λ p. run_by dial common.n (is_ready_at common settings (s ∷ past)) p (excesses_at common settings dial phase past)) here
      ∙ sym (excesses_are s past r)

  some_picked : (past : List Numbered) → is_picked_at common settings dial phase past ≡ true → has_any (excesses_at common settings dial phase past) ≡ true
  some_picked [] e = absurd (false≢true (sym (and_left _ _ (ready_none common settings cycle)) ∙ e))
  some_picked (s ∷ past) e = elim (cases_eq (number_of_sample s) (newest_number number_of_sample past + 1)) [
    | inl next ↦ ap has_any (of_run-next number_of_sample (is_picked_at common settings dial phase) (excess_at common settings dial phase) s past e next)
    | inr gap ↦ ap has_any (of_run-gap number_of_sample (is_picked_at common settings dial phase) (excess_at common settings dial phase) s past e gap)
  ]

  -- the run is there exactly where the newest sample is picked up
  picked_is : (past : List Numbered) → has_any (excesses_at common settings dial phase past) ≡ is_picked_at common settings dial phase past
  picked_is past = elim (cases_Bool (is_picked_at common settings dial phase past)) [
    | inl e ↦ some_picked past e ∙ sym e
    | inr e ↦ ap has_any (of_run-none number_of_sample (is_picked_at common settings dial phase) (excess_at common settings dial phase) past e) ∙ sym e
  ]

  -- what an element holds is what holds of its phase
  pub facts_are : (past : List Numbered) (element : Element) → StandsFor dial common.rate (excesses_at common settings dial phase past) element →
      element.facts ≡ phase_facts common settings dial phase past
  facts_are past element stands =
      let facts : Bool → Bool → PhaseFacts = λ picked done. (record { picked = picked; done = done }) in
      ap₂ facts (stands.picked ∙ picked_is past)
      (stands.done ∙ ap (λ b. b && is_enough dial.curve dial.tms common.rate (sum (excesses_at common settings dial phase past))) (picked_is past))
