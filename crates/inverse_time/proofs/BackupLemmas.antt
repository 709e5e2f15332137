-- A line's backup after one more sample set.
use Rattle.std.proofs.Common.{◌≡◌, ◌∙◌, ℕ, ◌≤◌, sym, ap, ap₂, subst, List, [], ◌∷◌, ◌++◌, Option, Some, None}
use Rattle.std.specs.Option.{option_map}
use Rattle.sample_windows.specs.Windows.{at_each}
use Rattle.sample_windows.specs.Numbered.{Rises, run_of}
use Rattle.relay_num.specs.declared.Cx.{Cx}
use Rattle.relay_settings.specs.declared.types.Common.{Common}
use Rattle.relay_settings.specs.Settings.{PlainLine}
use Rattle.sv_frame.specs.Asdu.{PlainAsdu}
use Rattle.event_record.specs.declared.time.At.{At}
use Rattle.event_record.specs.Time.{time_of}
use Rattle.loop_impedance.specs.Loops.{item}
use Rattle.line_relay.specs.LineSamples.{Numbered, number_of_sample}
use Rattle.line_relay.specs.Phasors.{phasors_of, phasor_of, eight}
use Rattle.line_relay.specs.Outcomes.{number_taken, taken_samples, outcome_of}
use Rattle.line_relay.specs.declared.front.Step.{Step}
use Rattle.line_relay.specs.Steps.{step_of}
use Rattle.line_relay.specs.KeptGuards.{next_run}
use Rattle.line_relay.proofs.FrontLemmas.{rises}
use Rattle.line_relay.proofs.LineLemmas.{newest, taken, came_is, step_phasors}
use Rattle.inverse_time.specs.declared.curve.Dial.{Dial}
use Rattle.inverse_time.specs.declared.event.BackupEvent.{BackupEvent}
use Rattle.inverse_time.specs.declared.element.Element.{Element}
use Rattle.inverse_time.specs.Overcurrents.{excesses_at}
use Rattle.inverse_time.specs.BackupEvents.{told_at, phase_changes, phase_events, events_by, backup_events}
use Rattle.inverse_time.specs.KeptElement.{excess_by, StandsFor}
use Rattle.inverse_time.proofs.PhaseLemmas.{excesses_next, facts_are}

-- what an element takes of phasors
abbrev pub Takes : Dial → Common → ℕ → Option (List Cx) → Element → Element → Type 0
Takes dial common phase phasors old new = (run : List ℕ) → StandsFor dial common.rate run old →
    StandsFor dial common.rate (next_run (excess_by dial common.n (option_map (item phase) phasors)) run) new

module _ (common : Common) (settings : PlainLine) (dial : Dial) (cycle : 2 ≤ common.n) (s : Numbered) (past : List Numbered) (rises : Rises number_of_sample (s ∷ past))
    (by : Common) (with' : Dial) (phasors : Option (List Cx)) (same_common : by ≡ common) (same_dial : with' ≡ dial)
    (formed : phasors ≡ phasors_of common.n settings.mimic (s ∷ past)) (phase : ℕ) (old new : Element)
    (here : item phase (eight (phasor_of common.n settings.mimic (s ∷ past))) ≡ phasor_of common.n settings.mimic (s ∷ past) phase)
    (takes : Takes with' by phase phasors old new)
    (stands : StandsFor dial common.rate (excesses_at common settings dial phase past) old) where
  phase_after : StandsFor dial common.rate (excesses_at common settings dial phase (s ∷ past)) new
  phase_after =
      let moved : Takes dial common phase (phasors_of common.n settings.mimic (s ∷ past)) old new =
      subst (λ ps. Takes dial common phase ps old new) formed
      (subst (λ d. Takes d common phase phasors old new) same_dial (subst (λ c. Takes with' c phase phasors old new) same_common takes)) in
      subst (λ run. StandsFor dial common.rate run new) (excesses_next common settings dial cycle phase s past rises here)
      (moved (excesses_at common settings dial phase past) stands)

  phase_told : (at : At) (number : ℕ) → at ≡ time_of by number →
      told_at at phase (phase_changes old.facts new.facts) ≡ phase_events common settings dial (time_of common number) past (s ∷ past) phase
  phase_told at number when =
      ap (λ t. told_at t phase (phase_changes old.facts new.facts)) (when ∙ ap (λ c. time_of c number) same_common)
      ∙ ap₂ (λ f g. told_at (time_of common number) phase (phase_changes f g)) (facts_are common settings dial cycle phase past old stands)
      (facts_are common settings dial cycle phase (s ∷ past) new phase_after)

pub three : (none one two all a b c : List BackupEvent) → none ≡ [] → one ≡ none ++ a → two ≡ one ++ b → all ≡ two ++ c → all ≡ a ++ b ++ c
three none one two all a b c e f g h =
    h ∙ ap (λ xs. xs ++ c) (g ∙ ap (λ xs. xs ++ b) (f ∙ ap (λ xs. xs ++ a) e))

-- an element that has added nothing stands for no samples
pub none_added : (common : Common) (settings : PlainLine) (dial : Dial) (phase : ℕ) (element : Element) → StandsFor dial common.rate [] element →
    StandsFor dial common.rate (excesses_at common settings dial phase []) element
unfolding run_of at_each
none_added common settings dial phase element stands = stands

module _ (common : Common) (settings : PlainLine) (dial : Dial) (asdus : List PlainAsdu) (a : PlainAsdu) where
  pub events_untaken : number_taken (outcome_of common settings a asdus) ≡ None → backup_events common settings dial (a ∷ asdus) ≡ []
  events_untaken none = ap (λ o. events_by common settings dial o (taken_samples common settings asdus) (taken_samples common settings (a ∷ asdus))) none

  pub events_taken : (number : ℕ) → number_taken (outcome_of common settings a asdus) ≡ Some number →
      backup_events common settings dial (a ∷ asdus)
      ≡ events_by common settings dial (Some number) (taken_samples common settings asdus) (taken_samples common settings (a ∷ asdus))
  events_taken number some = ap (λ o. events_by common settings dial o (taken_samples common settings asdus) (taken_samples common settings (a ∷ asdus))) some

  module _ (step : Step) (number : ℕ) (cycle : 2 ≤ common.n) (told : step ≡ step_of common settings a asdus) (is : number_taken step.outcome ≡ Some number) where
    pub is_taken : number_taken (outcome_of common settings a asdus) ≡ Some number
    is_taken = ap number_taken (came_is common settings a asdus step told) ∙ is

    newer : taken_samples common settings (a ∷ asdus) ≡ newest common settings a asdus number ∷ taken_samples common settings asdus
    newer = taken common settings a asdus number is_taken

    formed : step.phasors ≡ phasors_of common.n settings.mimic (newest common settings a asdus number ∷ taken_samples common settings asdus)
    formed = ap (λ (t : Step). t.phasors) told ∙ step_phasors common settings a asdus number is_taken ∙ ap (phasors_of common.n settings.mimic) newer

    module _ (by : Common) (with' : Dial) (same_common : by ≡ common) (same_dial : with' ≡ dial) (phase : ℕ) (old new : Element)
        (here : (samples : List Numbered) → item phase (eight (phasor_of common.n settings.mimic samples)) ≡ phasor_of common.n settings.mimic samples phase)
        (takes : Takes with' by phase step.phasors old new)
        (stands : StandsFor dial common.rate (excesses_at common settings dial phase (taken_samples common settings asdus)) old) where
      -- a phase after the sample set, and what is told of it
      pub set_after : StandsFor dial common.rate (excesses_at common settings dial phase (taken_samples common settings (a ∷ asdus))) new
      set_after = subst (λ samples. StandsFor dial common.rate (excesses_at common settings dial phase samples) new) (sym newer)
          (phase_after common settings dial cycle (newest common settings a asdus number) (taken_samples common settings asdus) (subst (Rises number_of_sample) newer (rises common settings (a ∷ asdus)))
          by with' step.phasors same_common same_dial formed phase old new (here _) takes stands)

      pub set_told : (at : At) → at ≡ time_of by number →
          told_at at phase (phase_changes old.facts new.facts)
          ≡ phase_events common settings dial (time_of common number) (taken_samples common settings asdus) (taken_samples common settings (a ∷ asdus)) phase
      set_told at when =
          phase_told common settings dial cycle (newest common settings a asdus number) (taken_samples common settings asdus) (subst (Rises number_of_sample) newer (rises common settings (a ∷ asdus)))
          by with' step.phasors same_common same_dial formed phase old new (here _) takes stands at number when
          ∙ ap (λ samples. phase_events common settings dial (time_of common number) (taken_samples common settings asdus) samples phase) (sym newer)
