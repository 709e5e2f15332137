-- A line after one more sample set.
use Rattle.std.proofs.Common.{◌≡◌, ◌∙◌, ℕ, ◌<◌, Bool, true, false, ap, ap₂, sym, refl, subst, List, [], ◌∷◌, ◌++◌, Option, Some, None}
use Rattle.std.specs.Prelude.{if◌then◌else◌}
use Rattle.std.specs.Option.{option_map}
use Rattle.std.proofs.lemmas.List.{append-nil}
use Rattle.relay_settings.specs.declared.types.Common.{Common}
use Rattle.relay_settings.specs.Settings.{PlainLine}
use Rattle.sv_frame.specs.Asdu.{PlainAsdu}
use Rattle.event_record.specs.declared.event.Event.{Event}
use Rattle.event_record.specs.Time.{time_of}
use Rattle.goose_publish.specs.declared.points.Send.{Send}
use Rattle.line_relay.specs.declared.front.Outcome.{Outcome}
use Rattle.line_relay.specs.LineSamples.{Numbered, newest_of, is_ready}
use Rattle.line_relay.specs.Phasors.{phasors_of, phasor_of, eight}
use Rattle.line_relay.specs.declared.front.Step.{Step}
use Rattle.line_relay.specs.Outcomes.{number_taken, sample_in, with_sample, taken_samples, taken_number, outcome_of}
use Rattle.line_relay.specs.Steps.{step_by, step_of}
use Rattle.line_relay.specs.Measured.{measured}
use Rattle.line_relay.specs.Guards.{measured_at}
use Rattle.line_relay.specs.Facts.{facts_of}
use Rattle.line_relay.specs.Events.{arrival, changes, told}
use Rattle.line_relay.specs.Points.{send_at}
use Rattle.line_relay.specs.Bursts.{PlainBurst, sent_by, burst}
use Rattle.line_relay.specs.KeptLine.{Kept, HoldsFor}
use Rattle.line_relay.specs.Noted.{formed_at}
use Rattle.event_record.specs.Printable.{IsPrintable}
use Rattle.std.specs.List.{All}
use Rattle.line_relay.proofs.EventLemmas.{changes-same, arrival-printable, told-printable, time-printable}

-- what is measured is formed of the phasors
pub formed_is : (common : Common) (settings : PlainLine) (past : List Numbered) → option_map measured (phasors_of common.n settings.mimic past) ≡ formed_at common settings past
unfolding measured_at
formed_is common settings past = by_ready (is_ready common.n settings.mimic past)
  where
    by_ready : (b : Bool) → option_map measured (if b then Some (eight (phasor_of common.n settings.mimic past)) else None)
        ≡ (if b then Some (measured (eight (phasor_of common.n settings.mimic past))) else None)
    by_ready true = refl
    by_ready false = refl

outcome_by : (common : Common) (settings : PlainLine) (o : Outcome) (number : Option ℕ) (a : PlainAsdu) (ss : List Numbered) → (step_by common settings o number a ss).outcome ≡ o
outcome_by common settings o None a ss = refl
outcome_by common settings o (Some number) a ss = refl

pub step_outcome : (common : Common) (settings : PlainLine) (a : PlainAsdu) (asdus : List PlainAsdu) → (step_of common settings a asdus).outcome ≡ outcome_of common settings a asdus
step_outcome common settings a asdus =
    outcome_by common settings (outcome_of common settings a asdus) (number_taken (outcome_of common settings a asdus)) a (taken_samples common settings (a ∷ asdus))

pub step_phasors : (common : Common) (settings : PlainLine) (a : PlainAsdu) (asdus : List PlainAsdu) (number : ℕ) → number_taken (outcome_of common settings a asdus) ≡ Some number →
    (step_of common settings a asdus).phasors ≡ phasors_of common.n settings.mimic (taken_samples common settings (a ∷ asdus))
step_phasors common settings a asdus number some =
    ap (λ n. (step_by common settings (outcome_of common settings a asdus) n a (taken_samples common settings (a ∷ asdus))).phasors) some

pub moves : (c c' : Common) (s s' : PlainLine) (past : List Numbered) (kept : Kept) → c ≡ c' → s ≡ s' → HoldsFor c s past kept → HoldsFor c' s' past kept
moves c c' s s' past kept e f h =
    subst (λ (by : Common). HoldsFor by s' past kept) e (subst (λ (by : PlainLine). HoldsFor c by past kept) f h)

module _ (common : Common) (settings : PlainLine) (a : PlainAsdu) (asdus : List PlainAsdu) where
  abbrev past : List Numbered
  past = taken_samples common settings asdus

  abbrev pub newest : ℕ → Numbered
  newest number = record { number = number; sample = sample_in common settings a }

  -- a sample set that isn't taken leaves the samples as they were
  pub untaken : number_taken (outcome_of common settings a asdus) ≡ None → taken_samples common settings (a ∷ asdus) ≡ past
  untaken none = ap (λ n. with_sample common settings n a past) none

  pub taken : (number : ℕ) → number_taken (outcome_of common settings a asdus) ≡ Some number → taken_samples common settings (a ∷ asdus) ≡ newest number ∷ past
  taken number some = ap (λ n. with_sample common settings n a past) some

  -- how it came, by the front's step
  pub came_is : (step : Step) → step ≡ step_of common settings a asdus → outcome_of common settings a asdus ≡ step.outcome
  came_is step e = sym (ap (λ (s : Step). s.outcome) e ∙ step_outcome common settings a asdus)

  -- what is told of that
  pub came_at : (by : Common) (last : Option ℕ) (o : Outcome) (before items : List Event) →
      items ≡ before ++ told (option_map (time_of by) last) (arrival a.counter o) → before ≡ [] → by ≡ common → last ≡ taken_number common settings (a ∷ asdus) →
      items ≡ told (option_map (time_of common) (taken_number common settings (a ∷ asdus))) (arrival a.counter o)
  came_at by last o before items e none same at =
      e ∙ ap (λ (xs : List Event). xs ++ told (option_map (time_of by) last) (arrival a.counter o)) none
      ∙ ap₂ (λ (c : Common) when. told (option_map (time_of c) when) (arrival a.counter o)) same at

  abbrev burst_with : Outcome → Option ℕ → List Numbered → PlainBurst
  burst_with o number samples = record {
    events = told (option_map (time_of common) (newest_of samples)) (arrival a.counter o ++ changes (facts_of common settings past) (facts_of common settings samples));
    send = sent_by common settings number samples;
  }

  abbrev burst_by : Outcome → PlainBurst
  burst_by o = burst_with o (number_taken o) (with_sample common settings (number_taken o) a past)

  -- what is told of a sample set that isn't taken
  pub burst_untaken : (o : Outcome) → outcome_of common settings a asdus ≡ o → number_taken o ≡ None → (events : List Event) (send : Option Send) →
      events ≡ told (option_map (time_of common) (newest_of (taken_samples common settings (a ∷ asdus)))) (arrival a.counter o) → send ≡ None →
      (let brought : PlainBurst = record { events = events; send = send } in brought) ≡ burst common settings (a ∷ asdus)
  burst_untaken o came none events send e nothing =
      ap₂ (λ (xs : List Event) (sent : Option Send). let brought : PlainBurst = record { events = xs; send = sent } in brought)
      (e ∙ ap (λ samples. told (option_map (time_of common) (newest_of samples)) (arrival a.counter o)) (untaken (ap number_taken came ∙ none))
      ∙ ap (told (option_map (time_of common) (newest_of past))) (sym (append-nil (arrival a.counter o)) ∙ ap (λ whats. arrival a.counter o ++ whats) (sym (changes-same (facts_of common settings past)))))
      nothing
      ∙ sym (ap burst_by came ∙ ap (λ number. burst_with o number (with_sample common settings number a past)) none)

  -- and of one that is
  pub burst_taken : (o : Outcome) (number : ℕ) → outcome_of common settings a asdus ≡ o → number_taken o ≡ Some number → (events : List Event) (send : Option Send) →
      events ≡ told (Some (time_of common number)) (arrival a.counter o ++ changes (facts_of common settings past) (facts_of common settings (newest number ∷ past))) →
      send ≡ send_at common settings (newest number ∷ past) →
      (let brought : PlainBurst = record { events = events; send = send } in brought) ≡ burst common settings (a ∷ asdus)
  burst_taken o number came some events send e sent =
      ap₂ (λ (xs : List Event) (out : Option Send). let brought : PlainBurst = record { events = xs; send = out } in brought) e sent
      ∙ sym (ap burst_by came ∙ ap (λ n. burst_with o n (with_sample common settings n a past)) some)

-- what is told of a sample set that came has a text
pub came_printable : (common : Common) (last : Option ℕ) (counter : ℕ) (o : Outcome) (before items : List Event) → 1 < common.rate →
    items ≡ before ++ told (option_map (time_of common) last) (arrival counter o) → before ≡ [] → All IsPrintable items
came_printable common last counter o before items rated e none =
    subst (All IsPrintable) (sym (e ∙ ap (λ (xs : List Event). xs ++ told (option_map (time_of common) last) (arrival counter o)) none))
    (told-printable (option_map (time_of common) last) (arrival counter o) (time-printable common last rated) (arrival-printable counter o))
