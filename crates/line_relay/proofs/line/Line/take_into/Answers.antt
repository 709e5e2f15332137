use Rattle.std.proofs.Common.{◌≡◌, ◌∙◌, sym, ap, ap₂, refl, subst, ◌^◌, ◌≤◌, ◌+◌, ◌<◌, arith, Some, List, [], ◌∷◌, ◌++◌}
use Rattle.std.specs.Option.{ForSome, option_map}
use Rattle.sample_windows.specs.Numbered.{Rises}
use Rattle.relay_settings.specs.declared.types.Common.{Common}
use Rattle.relay_settings.specs.Settings.{PlainLine, plain_line}
use Rattle.sv_frame.specs.Asdu.{PlainAsdu, plain_asdu}
use Rattle.event_record.specs.Time.{time_of}
use Rattle.line_relay.specs.declared.front.Front.{Front}
use Rattle.line_relay.specs.declared.front.Step.{Step}
use Rattle.line_relay.specs.LineSamples.{Numbered, number_of_sample, newest_of}
use Rattle.line_relay.specs.Outcomes.{number_taken, taken_number, taken_samples, outcome_of}
use Rattle.line_relay.specs.Steps.{step_of}
use Rattle.line_relay.specs.Phasors.{phasors_of}
use Rattle.line_relay.specs.Measured.{measured}
use Rattle.line_relay.specs.Events.{arrival, changes, told}
use Rattle.line_relay.specs.Facts.{facts_of}
use Rattle.line_relay.specs.Points.{send_at}
use Rattle.line_relay.proofs.EventLemmas.{told_append}
use Rattle.line_relay.specs.Fronts.{StandsFor as FrontStandsFor}
use Rattle.line_relay.specs.KeptLine.{StandsFor, HoldsFor, kept_by}
use Rattle.line_relay.specs.Noted.{IsNext, formed_at}
use Rattle.line_relay.proofs.FrontLemmas.{rises}
use Rattle.line_relay.proofs.LineLemmas.{formed_is, moves, newest, untaken, taken, burst_untaken, burst_taken, came_is, came_at, came_printable, step_phasors}
use Rattle.line_relay.proofs.line.Line.take_into.Given as given
use Rattle.line_relay.proofs.line.Line.take_into.Goals as goal

pub note-requires-clause-number : goal.note-requires-clause-number
note-requires-clause-number g c =
    let last : c.take-step.new.self.numberer.last ≡ Some c.in-Some.number = c.take-step.ensures.taken c.in-Some.number (sym c.number.ensures ∙ c.in-Some.is) in
    let few : ForSome c.args.self.now.front.numberer.last (λ n. n ≤ 2 ^ 60) = λ n e. (let below : n < 2 ^ 60 = c.requires n e in omega arith) in
    let grown : c.in-Some.number ≤ 2 ^ 60 + 4800 = c.take-step.ensures.grows (2 ^ 60) few c.in-Some.number last in
    omega arith

pub returns-clause-grows : goal.returns-clause-grows
returns-clause-grows g c most few x e =
    c.take-step.ensures.grows most few x (sym (ap (λ (front : Front). front.numberer.last) c.note.ensures.same_front) ∙ e)

pub returns-in_default-clause-burst : goal.returns-in_default-clause-burst
returns-in_default-clause-burst g c common settings asdus stands =
    let a = plain_asdu c.args.a.now in
    let after = c.take-step.ensures.after common settings asdus stands.front in
    let came = came_is common settings a asdus c.take-step.result (c.take-step.ensures.step common settings asdus stands.front) in
    burst_untaken common settings a asdus c.take-step.result.outcome came (sym c.number.ensures ∙ c.in_default.is) _ _
    (came_at common settings a asdus c.args.self.now.common c.last-last.result c.take-step.result.outcome c.clear.new.self.events.items c.push_arrival.new.events.items
    c.push_arrival.ensures.events c.clear.ensures.events stands.same_common (c.last-last.ensures.field ∙ after.last))
    c.clear.ensures.send

pub returns-in_default-clause-after : goal.returns-in_default-clause-after
returns-in_default-clause-after g c common settings asdus stands =
    let a = plain_asdu c.args.a.now in
    let came = came_is common settings a asdus c.take-step.result (c.take-step.ensures.step common settings asdus stands.front) in
    let same = untaken common settings a asdus (ap number_taken came ∙ sym c.number.ensures ∙ c.in_default.is) in
    record {
      same_common = stands.same_common;
      same_settings = stands.same_settings;
      front = c.take-step.ensures.after common settings asdus stands.front;
      parts = subst (λ (samples : List Numbered). HoldsFor common settings samples (kept_by c.args.self.now)) (sym same) stands.parts;
    }

pub returns-in_default-clause-printable : goal.returns-in_default-clause-printable
returns-in_default-clause-printable g c =
    came_printable c.args.self.now.common c.last-last.result c.args.a.now.counter c.take-step.result.outcome c.clear.new.self.events.items c.push_arrival.new.events.items
    c.args.self.now.rated c.push_arrival.ensures.events c.clear.ensures.events

module _ (g : given.Over) (c : goal.After-note g) (common : Common) (settings : PlainLine) (asdus : List PlainAsdu)
    (stands : StandsFor common settings asdus c.args.self.now) where
  abbrev a : PlainAsdu
  a = plain_asdu c.args.a.now

  after : FrontStandsFor common settings (a ∷ asdus) c.take-step.new.self
  after = c.take-step.ensures.after common settings asdus stands.front

  step : c.take-step.result ≡ step_of common settings a asdus
  step = c.take-step.ensures.step common settings asdus stands.front

  came : outcome_of common settings a asdus ≡ c.take-step.result.outcome
  came = came_is common settings a asdus c.take-step.result step

  number : number_taken c.take-step.result.outcome ≡ Some c.in-Some.number
  number = sym c.number.ensures ∙ c.in-Some.is

  abbrev s : Numbered
  s = newest common settings a asdus c.in-Some.number

  abbrev past : List Numbered
  past = taken_samples common settings asdus

  newer : taken_samples common settings (a ∷ asdus) ≡ s ∷ past
  newer = taken common settings a asdus c.in-Some.number (ap number_taken came ∙ number)

  formed : option_map measured c.take-step.result.phasors ≡ formed_at common settings (s ∷ past)
  formed = ap (option_map measured) (ap (λ (t : Step). t.phasors) step
      ∙ step_phasors common settings a asdus c.in-Some.number (ap number_taken came ∙ number) ∙ ap (phasors_of common.n settings.mimic) newer)
      ∙ formed_is common settings (s ∷ past)

  next : IsNext c.args.self.now.common (plain_line c.args.self.now.settings) s past (kept_by c.args.self.now) c.in-Some.number (option_map measured c.take-step.result.phasors)
  next = record {
    holds = moves common c.args.self.now.common settings (plain_line c.args.self.now.settings) past (kept_by c.args.self.now) (sym stands.same_common) (sym stands.same_settings) stands.parts;
    same_number = refl;
    rises = subst (Rises number_of_sample) newer (rises common settings (a ∷ asdus));
    formed = formed ∙ ap₂ (λ (by : Common) (line : PlainLine). formed_at by line (s ∷ past)) (sym stands.same_common) (sym stands.same_settings);
  }

pub returns-clause-burst : goal.returns-clause-burst
returns-clause-burst g c common settings asdus stands =
    let a = plain_asdu c.args.a.now in
    let samples = s g c common settings asdus stands ∷ past g c common settings asdus stands in
    let is = next g c common settings asdus stands in
    let same = sym stands.same_common in
    let when : c.last-last.result ≡ taken_number common settings (a ∷ asdus) = c.last-last.ensures.field ∙ (after g c common settings asdus stands).last in
    let at = ap newest_of (newer g c common settings asdus stands) in
    burst_taken common settings a asdus c.take-step.result.outcome c.in-Some.number (came g c common settings asdus stands) (number g c common settings asdus stands)
    c.note.new.burst.events.items c.note.new.burst.send
    (told_append (Some (time_of common c.in-Some.number)) [] c.push_arrival.new.events.items c.note.new.burst.events.items
    (arrival a.counter c.take-step.result.outcome) (changes (facts_of common settings (past g c common settings asdus stands)) (facts_of common settings samples))
    (came_at common settings a asdus c.args.self.now.common c.last-last.result c.take-step.result.outcome c.clear.new.self.events.items c.push_arrival.new.events.items
    c.push_arrival.ensures.events c.clear.ensures.events stands.same_common when
    ∙ ap (λ last. told (option_map (time_of common) last) (arrival a.counter c.take-step.result.outcome)) at)
    (c.note.ensures.events (s g c common settings asdus stands) (past g c common settings asdus stands) is
    ∙ ap₂ (λ (by : Common) (line : PlainLine). c.push_arrival.new.events.items ++ told (Some (time_of by c.in-Some.number)) (changes (facts_of by line (past g c common settings asdus stands)) (facts_of by line samples)))
    stands.same_common stands.same_settings))
    (c.note.ensures.send (s g c common settings asdus stands) (past g c common settings asdus stands) is
    ∙ ap₂ (λ (by : Common) (line : PlainLine). send_at by line samples) stands.same_common stands.same_settings)

pub returns-clause-after : goal.returns-clause-after
returns-clause-after g c common settings asdus stands = record {
  same_common = c.note.ensures.same_common ∙ stands.same_common;
  same_settings = ap plain_line c.note.ensures.same_settings ∙ stands.same_settings;
  front = subst (λ (front : Front). FrontStandsFor common settings (plain_asdu c.args.a.now ∷ asdus) front) (sym c.note.ensures.same_front) (after g c common settings asdus stands);
  parts = subst (λ (samples : List Numbered). HoldsFor common settings samples (kept_by c.note.new.self)) (sym (newer g c common settings asdus stands))
      (moves c.args.self.now.common common (plain_line c.args.self.now.settings) settings (s g c common settings asdus stands ∷ past g c common settings asdus stands) (kept_by c.note.new.self)
      stands.same_common stands.same_settings
      (c.note.ensures.after (s g c common settings asdus stands) (past g c common settings asdus stands) (next g c common settings asdus stands)));
}

pub returns-clause-printable : goal.returns-clause-printable
returns-clause-printable g c =
    c.note.ensures.printable
    (came_printable c.args.self.now.common c.last-last.result c.args.a.now.counter c.take-step.result.outcome c.clear.new.self.events.items c.push_arrival.new.events.items
    c.args.self.now.rated c.push_arrival.ensures.events c.clear.ensures.events)
