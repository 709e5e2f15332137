use Rattle.std.proofs.Common.{◌∙◌, sym, ap, refl, subst, ◌≤◌, List, [], ◌++◌}
use Rattle.std.proofs.lemmas.List.Elements.{All-nil, All-same}
use Rattle.relay_settings.specs.declared.types.Common.{Common}
use Rattle.sv_frame.specs.Asdu.{plain_asdu}
use Rattle.line_relay.specs.LineSamples.{Numbered}
use Rattle.line_relay.specs.Outcomes.{number_taken}
use Rattle.line_relay.proofs.FrontLemmas.{cycle_two}
use Rattle.line_relay.proofs.LineLemmas.{untaken, came_is}
use Rattle.inverse_time.specs.BackupTexts.{IsPrintableEvent}
use Rattle.inverse_time.specs.KeptBackup.{HoldsFor}
use Rattle.inverse_time.specs.declared.event.BackupEvent.{BackupEvent}
use Rattle.inverse_time.proofs.BackupLemmas.{events_untaken, events_taken, is_taken, set_after, set_told, three}
use Rattle.inverse_time.proofs.backup.BackupLineElement.take.Goals as goal

pub returns-in_default-clause-told : goal.returns-in_default-clause-told
returns-in_default-clause-told g c common dial settings asdus stands =
    let a = plain_asdu c.args.a.now in
    let came = came_is common settings a asdus c.take-step.result (c.take-step.ensures.step common settings asdus stands.front) in
    c.new-events.ensures ∙ sym (events_untaken common settings dial asdus a (ap number_taken came ∙ sym c.number.ensures ∙ c.in_default.is))

pub returns-in_default-clause-after : goal.returns-in_default-clause-after
returns-in_default-clause-after g c common dial settings asdus stands =
    let a = plain_asdu c.args.a.now in
    let came = came_is common settings a asdus c.take-step.result (c.take-step.ensures.step common settings asdus stands.front) in
    let same = untaken common settings a asdus (ap number_taken came ∙ sym c.number.ensures ∙ c.in_default.is) in
    record {
      same_common = stands.same_common;
      same_sv_id = stands.same_sv_id;
      same_dial = stands.same_dial;
      front = c.take-step.ensures.after common settings asdus stands.front;
      elements = subst (λ (samples : List Numbered). HoldsFor common settings dial samples c.args.self.now.a c.args.self.now.b c.args.self.now.c) (sym same) stands.elements;
    }

pub returns-clause-told : goal.returns-clause-told
returns-clause-told g c common dial settings asdus stands =
    let a = plain_asdu c.args.a.now in
    let step = c.take-step.ensures.step common settings asdus stands.front in
    let is = sym c.number.ensures ∙ c.in-Some.is in
    let cycle : 2 ≤ common.n = subst (λ (by : Common). 2 ≤ by.n) stands.same_common (cycle_two c.args.self.now.common.n c.args.self.now.cycle) in
    let told_a = set_told common settings dial asdus a c.take-step.result c.in-Some.number cycle step is c.args.self.now.common c.args.self.now.dial stands.same_common stands.same_dial
    0 _ _ (λ samples. refl) c.take_phase.ensures.after stands.elements.phase_a c.at_of-at.result c.at_of-at.ensures.time in
    let told_b = set_told common settings dial asdus a c.take-step.result c.in-Some.number cycle step is c.args.self.now.common c.args.self.now.dial stands.same_common stands.same_dial
    1 _ _ (λ samples. refl) c.take_phase-2.ensures.after stands.elements.phase_b c.at_of-at.result c.at_of-at.ensures.time in
    let told_c = set_told common settings dial asdus a c.take-step.result c.in-Some.number cycle step is c.args.self.now.common c.args.self.now.dial stands.same_common stands.same_dial
    2 _ _ (λ samples. refl) c.take_phase-3.ensures.after stands.elements.phase_c c.at_of-at.result c.at_of-at.ensures.time in
    three c.new-events.result.items c.take_phase.new.events.items c.take_phase-2.new.events.items c.take_phase-3.new.events.items _ _ _ c.new-events.ensures
    (c.take_phase.ensures.events ∙ ap (λ (xs : List BackupEvent). c.new-events.result.items ++ xs) told_a)
    (c.take_phase-2.ensures.events ∙ ap (λ (xs : List BackupEvent). c.take_phase.new.events.items ++ xs) told_b)
    (c.take_phase-3.ensures.events ∙ ap (λ (xs : List BackupEvent). c.take_phase-2.new.events.items ++ xs) told_c)
    ∙ sym (events_taken common settings dial asdus a c.in-Some.number (is_taken common settings dial asdus a c.take-step.result c.in-Some.number cycle step is))

pub returns-clause-after : goal.returns-clause-after
returns-clause-after g c common dial settings asdus stands =
    let a = plain_asdu c.args.a.now in
    let step = c.take-step.ensures.step common settings asdus stands.front in
    let is = sym c.number.ensures ∙ c.in-Some.is in
    let cycle : 2 ≤ common.n = subst (λ (by : Common). 2 ≤ by.n) stands.same_common (cycle_two c.args.self.now.common.n c.args.self.now.cycle) in
    record {
      same_common = stands.same_common;
      same_sv_id = stands.same_sv_id;
      same_dial = stands.same_dial;
      front = c.take-step.ensures.after common settings asdus stands.front;
      elements = record {
        phase_a = set_after common settings dial asdus a c.take-step.result c.in-Some.number cycle step is c.args.self.now.common c.args.self.now.dial stands.same_common stands.same_dial
            0 _ _ (λ samples. refl) c.take_phase.ensures.after stands.elements.phase_a;
        phase_b = set_after common settings dial asdus a c.take-step.result c.in-Some.number cycle step is c.args.self.now.common c.args.self.now.dial stands.same_common stands.same_dial
            1 _ _ (λ samples. refl) c.take_phase-2.ensures.after stands.elements.phase_b;
        phase_c = set_after common settings dial asdus a c.take-step.result c.in-Some.number cycle step is c.args.self.now.common c.args.self.now.dial stands.same_common stands.same_dial
            2 _ _ (λ samples. refl) c.take_phase-3.ensures.after stands.elements.phase_c;
      };
    }

pub returns-clause-printable : goal.returns-clause-printable
returns-clause-printable g c =
    c.take_phase-3.ensures.printable (c.take_phase-2.ensures.printable (c.take_phase.ensures.printable
    (All-same IsPrintableEvent c.new-events.result.items [] c.new-events.ensures (All-nil IsPrintableEvent))))
