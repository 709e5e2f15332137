use Rattle.std.proofs.Common.{◌≡◌, ◌∙◌, ◌+◌, ◌<◌, ◌≤◌, ◌^◌, List, Some, sym, ap, ap₂, subst, arith}
use Rattle.std.specs.Option.{ForSome}
use Rattle.sv_frame.specs.Asdu.{plain_asdu}
use Rattle.line_relay.specs.Outcomes.{number_taken, taken_samples}
use Rattle.line_relay.specs.Bursts.{PlainBurst}
use Rattle.line_relay.proofs.LineLemmas.{came_is}
use Rattle.comtrade_write.specs.declared.covered.Recorded.{Recorded}
use Rattle.comtrade_write.specs.Covered.{recorded}
use Rattle.comtrade_write.specs.Kept.{trip_after}
use Rattle.comtrade_write.specs.KeptWindow.{StandsFor as WindowStandsFor}
use Rattle.comtrade_write.proofs.WatchLemmas.{trip-after, same-recorded, sample-is, window-after}
use Rattle.comtrade_write.proofs.watch.Watch.take.Goals as goal

pub returns-in_default-clause-after : goal.returns-in_default-clause-after
returns-in_default-clause-after g c common settings k asdus stands =
    let a = plain_asdu c.args.a.now in
    let came = came_is common settings a asdus c.take-step.result (c.take-step.ensures.step common settings asdus stands.front) in
    let same = same-recorded common settings a asdus (ap number_taken came ∙ sym c.number.ensures ∙ c.in_default.is) in
    record {
      line = c.take_into.ensures.after common settings asdus stands.line;
      front = c.take-step.ensures.after common settings asdus stands.front;
      window = subst (λ (rs : List Recorded). WindowStandsFor common.n k rs c.args.self.now.window) (sym same) stands.window;
    }

pub returns-in_default-sample-clause-after : goal.returns-in_default-sample-clause-after
returns-in_default-sample-clause-after g c common settings k asdus stands =
    let a = plain_asdu c.args.a.now in
    let step = c.take-step.ensures.step common settings asdus stands.front in
    let some = sample-is common settings a asdus c.take-step.result c.in-Some.number step (sym c.number.ensures ∙ c.in-Some.is) in
    absurd (cc (sym some ∙ c.in_default-sample.is))

pub take-requires-clause-number : goal.take-requires-clause-number
take-requires-clause-number g c =
    let last : c.take-step.new.self.numberer.last ≡ Some c.in-Some.number = c.take-step.ensures.taken c.in-Some.number (sym c.number.ensures ∙ c.in-Some.is) in
    let few : ForSome c.args.self.now.front.numberer.last (λ n. n ≤ 2 ^ 60) = λ n e. (let below : n < 2 ^ 60 = c.requires.front n e in omega arith) in
    let grown : c.in-Some.number ≤ 2 ^ 60 + 4800 = c.take-step.ensures.grows (2 ^ 60) few c.in-Some.number last in
    omega arith

pub returns-clause-after : goal.returns-clause-after
returns-clause-after g c common settings k asdus stands =
    let a = plain_asdu c.args.a.now in
    let step = c.take-step.ensures.step common settings asdus stands.front in
    let is = sym c.number.ensures ∙ c.in-Some.is in
    let told = ap (λ (b : PlainBurst). b.events) (c.take_into.ensures.burst common settings asdus stands.line) in
    let trip = trip-after common settings a asdus c.args.self.now.window.stands c.take_into.new.burst.events.items c.trip_after-trip.result
    stands.window.stands told (c.trip_after-trip.ensures ∙ ap₂ trip_after c.stands.ensures c.as_slice.ensures.value) in
    record {
      line = c.take_into.ensures.after common settings asdus stands.line;
      front = c.take-step.ensures.after common settings asdus stands.front;
      window = window-after common settings a asdus c.take-step.result c.in-Some.number step is k c.in-Some-sample.sample c.trip_after-trip.result c.take.new.self
          c.in-Some-sample.is trip (λ rising. c.take.ensures.after common.n k (recorded common settings (taken_samples common settings asdus)) rising stands.window);
    }
