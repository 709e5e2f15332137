use Rattle.std.proofs.Common.{◌≡◌, ◌∙◌, ◌*◌, ap, ap₂, sym, subst, Bool, List, ◌∷◌, Option, Some}
use Rattle.std.specs.Option.{option_map}
use Rattle.relay_num.specs.declared.Cx.{Cx}
use Rattle.relay_settings.specs.Settings.{PlainLine, plain_line}
use Rattle.relay_settings.specs.declared.types.Common.{Common}
use Rattle.event_record.specs.Time.{time_of}
use Rattle.event_record.specs.declared.time.At.{At}
use Rattle.event_record.specs.declared.event.Event.{Event}
use Rattle.line_relay.specs.LineSamples.{Numbered}
use Rattle.line_relay.specs.Measured.{measured}
use Rattle.line_relay.proofs.FrontLemmas.{cycle_some}
use Rattle.fault_locate.specs.TripLoops.{is_trip_at}
use Rattle.fault_locate.specs.TripEvents.{has_trip, first_loop_of}
use Rattle.fault_locate.specs.KeptLookback.{currents_of_run, kept_before, StandsFor as LookbackStandsFor}
use Rattle.fault_locate.specs.KeptWaiting.{due_at, left_at, located_by_measured, measured_on_time}
use Rattle.fault_locate.proofs.RunLemmas.{run-is}
use Rattle.fault_locate.proofs.WaitingLemmas.{trip-told, trip-next, told_of, waits-on, told-is}
use Rattle.fault_locate.proofs.locator.Locator.note.Goals as goal

-- whether there is a trip, by the events
is_trip : (common : Common) (settings : PlainLine) (s : Numbered) (past : List Numbered) (found answer : Bool) (events items : List Event) →
    has_trip items ≡ is_trip_at common settings (s ∷ past) → events ≡ items → found ≡ has_trip events → found ≡ answer → is_trip_at common settings (s ∷ past) ≡ answer
is_trip common settings s past found answer events items told same is e = sym told ∙ ap has_trip (sym same) ∙ sym is ∙ e

pub returns-then-has_trip-clause-told : goal.returns-then-has_trip-clause-told
returns-then-has_trip-clause-told g c s past next holds =
    let common = c.args.self.now.common in
    let settings = plain_line c.args.self.now.settings in
    sym (trip-told common settings (cycle_some common.n c.args.self.now.cycle) s past
    (is_trip common settings s past c.has_trip.result _ c.as_slice-events.result.now _ next.trip c.as_slice-events.ensures.value c.has_trip.ensures c.if-has_trip.true))

pub returns-then-has_trip-clause-after : goal.returns-then-has_trip-clause-after
returns-then-has_trip-clause-after g c s past next holds =
    let common = c.args.self.now.common in
    let settings = plain_line c.args.self.now.settings in
    let some = cycle_some common.n c.args.self.now.cycle in
    let runs = run-is common settings s past c.args.follows c.args.number c.args.phasors.now c.currents_of.result next.same_number next.same_follows next.formed c.currents_of.ensures.value in
    record {
      lookback = subst (λ run. LookbackStandsFor common.n run c.take-before.new.self) runs (c.take-before.ensures.after common.n (currents_of_run common settings past) holds.lookback some);
      waiting = trip-next common settings some s past next.rises
          (is_trip common settings s past c.has_trip.result _ c.as_slice-events.result.now _ next.trip c.as_slice-events.ensures.value c.has_trip.ensures c.if-has_trip.true)
          c.trip_of-raised.result c.args.number c.take-before.result _ c.trip_of-raised.ensures.value next.same_number
          (c.take-before.ensures.before common.n (currents_of_run common settings past) holds.lookback some ∙ ap (kept_before (2 * common.n)) runs)
          (ap (first_loop_of settings.zones) c.as_slice-events.ensures.value ∙ next.loop);
    }

pub returns-in_default-clause-told : goal.returns-in_default-clause-told
returns-in_default-clause-told g c s past next holds =
    let common = c.args.self.now.common in
    let settings = plain_line c.args.self.now.settings in
    let some = cycle_some common.n c.args.self.now.cycle in
    let none = is_trip common settings s past c.has_trip.result _ c.as_slice-events.result.now _ next.trip c.as_slice-events.ensures.value c.has_trip.ensures c.if-has_trip.false in
    let due = c.take_due.ensures.due ∙ ap₂ (due_at common.n) next.same_number holds.waiting in
    sym (told-is common settings some s past next.rises none ∙ ap (option_map (told_of common settings some (s ∷ past))) (sym due ∙ c.in_default.is))

pub returns-in_default-clause-after : goal.returns-in_default-clause-after
returns-in_default-clause-after g c s past next holds =
    let common = c.args.self.now.common in
    let settings = plain_line c.args.self.now.settings in
    let some = cycle_some common.n c.args.self.now.cycle in
    let none = is_trip common settings s past c.has_trip.result _ c.as_slice-events.result.now _ next.trip c.as_slice-events.ensures.value c.has_trip.ensures c.if-has_trip.false in
    let runs = run-is common settings s past c.args.follows c.args.number c.args.phasors.now c.currents_of.result next.same_number next.same_follows next.formed c.currents_of.ensures.value in
    record {
      lookback = subst (λ run. LookbackStandsFor common.n run c.take-before.new.self) runs (c.take-before.ensures.after common.n (currents_of_run common settings past) holds.lookback some);
      waiting = c.take_due.ensures.left ∙ ap₂ (left_at common.n) next.same_number holds.waiting ∙ sym (waits-on common settings some s past next.rises none);
    }

pub returns-clause-told : goal.returns-clause-told
returns-clause-told g c s past next holds =
    let common = c.args.self.now.common in
    let settings = plain_line c.args.self.now.settings in
    let some = cycle_some common.n c.args.self.now.cycle in
    let none = is_trip common settings s past c.has_trip.result _ c.as_slice-events.result.now _ next.trip c.as_slice-events.ensures.value c.has_trip.ensures c.if-has_trip.false in
    let due = c.take_due.ensures.due ∙ ap₂ (due_at common.n) next.same_number holds.waiting in
    ap Some (c.measure.ensures.value
    ∙ ap₂ (λ (at : At) (ps : Option (List Cx)). located_by_measured settings at c.in-Some.trip (measured_on_time common.n at.number c.in-Some.trip (option_map measured ps)))
    (c.at_of-at.ensures.time ∙ ap (time_of common) next.same_number) next.formed)
    ∙ sym (told-is common settings some s past next.rises none ∙ ap (option_map (told_of common settings some (s ∷ past))) (sym due ∙ c.in-Some.is))

pub returns-clause-after : goal.returns-clause-after
returns-clause-after g c s past next holds =
    let common = c.args.self.now.common in
    let settings = plain_line c.args.self.now.settings in
    let some = cycle_some common.n c.args.self.now.cycle in
    let none = is_trip common settings s past c.has_trip.result _ c.as_slice-events.result.now _ next.trip c.as_slice-events.ensures.value c.has_trip.ensures c.if-has_trip.false in
    let runs = run-is common settings s past c.args.follows c.args.number c.args.phasors.now c.currents_of.result next.same_number next.same_follows next.formed c.currents_of.ensures.value in
    record {
      lookback = subst (λ run. LookbackStandsFor common.n run c.take-before.new.self) runs (c.take-before.ensures.after common.n (currents_of_run common settings past) holds.lookback some);
      waiting = c.take_due.ensures.left ∙ ap₂ (left_at common.n) next.same_number holds.waiting ∙ sym (waits-on common settings some s past next.rises none);
    }
