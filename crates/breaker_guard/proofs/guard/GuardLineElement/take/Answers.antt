use Rattle.std.proofs.Common.{◌∙◌, ◌^◌, refl, sym, ap, subst, List, [], ◌∷◌, Some, None}
use Rattle.relay_settings.specs.declared.types.Common.{Common}
use Rattle.sv_frame.specs.Asdu.{plain_asdu}
use Rattle.event_record.specs.declared.time.At.{At}
use Rattle.event_record.specs.Time.{time_of}
use Rattle.line_relay.specs.Bursts.{plain_burst}
use Rattle.line_relay.specs.Outcomes.{taken_samples}
use Rattle.line_relay.specs.KeptLine.{last_of as last_of_line}
use Rattle.line_bank.proofs.LastNumberLaws.{larger-first, larger-grows}
use Rattle.breaker_guard.specs.declared.event.GuardEvent.{GuardEvent}
use Rattle.breaker_guard.specs.KeptGuard.{line_last, front_last}
use Rattle.breaker_guard.specs.GuardTakes.{GuardTake, guard_takes}
use Rattle.breaker_guard.specs.Guarding.{waits_of, listed}
use Rattle.breaker_guard.specs.KeptWatch.{StandsFor as WatchStandsFor}
use Rattle.breaker_guard.proofs.GuardLemmas.{none-taken, same-takes, trip-brought, flowing-brought, rises-on, told-next, watch-next}
use Rattle.breaker_guard.proofs.guard.GuardLineElement.take.Goals as goal

pub take_into-requires : goal.take_into-requires
take_into-requires g c = larger-first (line_last c.args.self.now) (front_last c.args.self.now) (2 ^ 60) c.requires

pub returns-in_default-clause-grows : goal.returns-in_default-clause-grows
returns-in_default-clause-grows g c =
    larger-grows (line_last c.args.self.now) (front_last c.args.self.now) (last_of_line c.take_into.new.self) c.take-step.new.self.numberer.last c.take_into.ensures.grows c.take-step.ensures.grows

pub returns-in_default-take-clause-grows : goal.returns-in_default-take-clause-grows
returns-in_default-take-clause-grows g c =
    larger-grows (line_last c.args.self.now) (front_last c.args.self.now) (last_of_line c.take_into.new.self) c.take-step.new.self.numberer.last c.take_into.ensures.grows c.take-step.ensures.grows

pub returns-clause-grows : goal.returns-clause-grows
returns-clause-grows g c =
    larger-grows (line_last c.args.self.now) (front_last c.args.self.now) (last_of_line c.take_into.new.self) c.take-step.new.self.numberer.last c.take_into.ensures.grows c.take-step.ensures.grows

pub returns-in_default-clause-told : goal.returns-in_default-clause-told
returns-in_default-clause-told g c common times settings asdus stands =
    none-taken common settings times (plain_asdu c.args.a.now) asdus c.take-step.result (c.take-step.ensures.step common settings asdus stands.front) (sym c.number.ensures ∙ c.in_default.is)

pub returns-in_default-clause-after : goal.returns-in_default-clause-after
returns-in_default-clause-after g c common times settings asdus stands =
    let a = plain_asdu c.args.a.now in
    let same = same-takes common settings times a asdus c.take-step.result (c.take-step.ensures.step common settings asdus stands.front) (sym c.number.ensures ∙ c.in_default.is) in
    record {
      same_common = stands.same_common;
      same_sv_id = stands.same_sv_id;
      same_open_i = stands.same_open_i;
      line = c.take_into.ensures.after common settings asdus stands.line;
      front = c.take-step.ensures.after common settings asdus stands.front;
      waits = stands.waits;
      watch = subst (λ (ts : List GuardTake). WatchStandsFor (waits_of common.rate times) ts c.args.self.now.watch) same stands.watch;
    }

pub returns-in_default-take-clause-told : goal.returns-in_default-take-clause-told
returns-in_default-take-clause-told g c common times settings asdus stands =
    let a = plain_asdu c.args.a.now in
    let step = c.take-step.ensures.step common settings asdus stands.front in
    let is = sym c.number.ensures ∙ c.in-Some.is in
    let waits = waits_of common.rate times in
    let takes = guard_takes common settings (taken_samples common settings asdus) in
    let trips = c.trip_after-trip.ensures ∙ trip-brought common settings times a asdus c.take-step.result step c.in-Some.number is c.stands.result c.as_slice.result.now
    (plain_burst c.take_into.new.burst) (c.stands.ensures waits takes stands.watch) (c.take_into.ensures.burst common settings asdus stands.line) c.as_slice.ensures.value in
    let flows = c.is_flowing-flowing.ensures ∙ flowing-brought common settings times a asdus c.take-step.result step c.in-Some.number is c.args.self.now.common.n c.args.self.now.open_i
    (ap (λ (by : Common). by.n) stands.same_common) stands.same_open_i in
    let rise = rises-on common settings times a asdus c.take-step.result step c.in-Some.number is c.trip_after-trip.result c.is_flowing-flowing.result trips flows in
    told-next common settings times a asdus c.take-step.result step c.in-Some.number is c.trip_after-trip.result c.is_flowing-flowing.result trips flows
    None [] (ap listed (sym c.in_default-take.is) ∙ c.take.ensures.told waits takes stands.watch stands.waits rise) refl

pub returns-in_default-take-clause-after : goal.returns-in_default-take-clause-after
returns-in_default-take-clause-after g c common times settings asdus stands =
    let a = plain_asdu c.args.a.now in
    let step = c.take-step.ensures.step common settings asdus stands.front in
    let is = sym c.number.ensures ∙ c.in-Some.is in
    let waits = waits_of common.rate times in
    let takes = guard_takes common settings (taken_samples common settings asdus) in
    let trips = c.trip_after-trip.ensures ∙ trip-brought common settings times a asdus c.take-step.result step c.in-Some.number is c.stands.result c.as_slice.result.now
    (plain_burst c.take_into.new.burst) (c.stands.ensures waits takes stands.watch) (c.take_into.ensures.burst common settings asdus stands.line) c.as_slice.ensures.value in
    let flows = c.is_flowing-flowing.ensures ∙ flowing-brought common settings times a asdus c.take-step.result step c.in-Some.number is c.args.self.now.common.n c.args.self.now.open_i
    (ap (λ (by : Common). by.n) stands.same_common) stands.same_open_i in
    let rise = rises-on common settings times a asdus c.take-step.result step c.in-Some.number is c.trip_after-trip.result c.is_flowing-flowing.result trips flows in
    record {
      same_common = stands.same_common;
      same_sv_id = stands.same_sv_id;
      same_open_i = stands.same_open_i;
      line = c.take_into.ensures.after common settings asdus stands.line;
      front = c.take-step.ensures.after common settings asdus stands.front;
      waits = stands.waits;
      watch = watch-next common settings times a asdus c.take-step.result step c.in-Some.number is c.trip_after-trip.result c.is_flowing-flowing.result trips flows
          c.take.new.self (c.take.ensures.after waits takes stands.watch stands.waits rise);
    }

pub returns-clause-told : goal.returns-clause-told
returns-clause-told g c common times settings asdus stands =
    let a = plain_asdu c.args.a.now in
    let step = c.take-step.ensures.step common settings asdus stands.front in
    let is = sym c.number.ensures ∙ c.in-Some.is in
    let waits = waits_of common.rate times in
    let takes = guard_takes common settings (taken_samples common settings asdus) in
    let trips = c.trip_after-trip.ensures ∙ trip-brought common settings times a asdus c.take-step.result step c.in-Some.number is c.stands.result c.as_slice.result.now
    (plain_burst c.take_into.new.burst) (c.stands.ensures waits takes stands.watch) (c.take_into.ensures.burst common settings asdus stands.line) c.as_slice.ensures.value in
    let flows = c.is_flowing-flowing.ensures ∙ flowing-brought common settings times a asdus c.take-step.result step c.in-Some.number is c.args.self.now.common.n c.args.self.now.open_i
    (ap (λ (by : Common). by.n) stands.same_common) stands.same_open_i in
    let rise = rises-on common settings times a asdus c.take-step.result step c.in-Some.number is c.trip_after-trip.result c.is_flowing-flowing.result trips flows in
    told-next common settings times a asdus c.take-step.result step c.in-Some.number is c.trip_after-trip.result c.is_flowing-flowing.result trips flows
    (Some c.in-Some-take.what) (record { at = c.at_of.result; what = c.in-Some-take.what } ∷ []) (ap listed (sym c.in-Some-take.is) ∙ c.take.ensures.told waits takes stands.watch stands.waits rise) (ap (λ (at : At). let event : GuardEvent = record { at = at; what = c.in-Some-take.what } in event ∷ []) (c.at_of.ensures.time ∙ ap (λ (by : Common). time_of by c.in-Some.number) stands.same_common))

pub returns-clause-after : goal.returns-clause-after
returns-clause-after g c common times settings asdus stands =
    let a = plain_asdu c.args.a.now in
    let step = c.take-step.ensures.step common settings asdus stands.front in
    let is = sym c.number.ensures ∙ c.in-Some.is in
    let waits = waits_of common.rate times in
    let takes = guard_takes common settings (taken_samples common settings asdus) in
    let trips = c.trip_after-trip.ensures ∙ trip-brought common settings times a asdus c.take-step.result step c.in-Some.number is c.stands.result c.as_slice.result.now
    (plain_burst c.take_into.new.burst) (c.stands.ensures waits takes stands.watch) (c.take_into.ensures.burst common settings asdus stands.line) c.as_slice.ensures.value in
    let flows = c.is_flowing-flowing.ensures ∙ flowing-brought common settings times a asdus c.take-step.result step c.in-Some.number is c.args.self.now.common.n c.args.self.now.open_i
    (ap (λ (by : Common). by.n) stands.same_common) stands.same_open_i in
    let rise = rises-on common settings times a asdus c.take-step.result step c.in-Some.number is c.trip_after-trip.result c.is_flowing-flowing.result trips flows in
    record {
      same_common = stands.same_common;
      same_sv_id = stands.same_sv_id;
      same_open_i = stands.same_open_i;
      line = c.take_into.ensures.after common settings asdus stands.line;
      front = c.take-step.ensures.after common settings asdus stands.front;
      waits = stands.waits;
      watch = watch-next common settings times a asdus c.take-step.result step c.in-Some.number is c.trip_after-trip.result c.is_flowing-flowing.result trips flows
          c.take.new.self (c.take.ensures.after waits takes stands.watch stands.waits rise);
    }
