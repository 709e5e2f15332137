-- A line's guard after one more sample set, and a new one.
use Rattle.std.proofs.Common.{◌≡◌, ◌∙◌, ℕ, ◌+◌, ◌*◌, ◌<◌, ◌≤◌, Bool, true, false, ◌&&◌, refl, sym, ap, ap₂, subst, arith, List, [], ◌∷◌, ◌++◌, Option, Some, None}
use Rattle.std.specs.Prelude.{if◌then◌else◌}
use Rattle.std.specs.Option.{option_map_or}
use Rattle.std.proofs.Math.Nat.{mul-le-mul}
use Rattle.std.proofs.lemmas.Nat.{le-div}
use Rattle.sample_windows.specs.Below.{any_below}
use Rattle.sample_windows.specs.Windows.{at_each}
use Rattle.sample_windows.specs.Numbered.{Rises}
use Rattle.sample_windows.proofs.RunLemmas.{Rises-at_each}
use Rattle.relay_num.specs.declared.Cx.{Cx}
use Rattle.relay_settings.specs.declared.types.Common.{Common}
use Rattle.relay_settings.specs.Settings.{PlainLine}
use Rattle.relay_settings.specs.Times.{samples}
use Rattle.sv_frame.specs.Asdu.{PlainAsdu}
use Rattle.event_record.specs.declared.event.Event.{Event}
use Rattle.event_record.specs.Time.{time_of}
use Rattle.trip_logic.specs.Seal.{stands}
use Rattle.line_relay.specs.declared.front.Step.{Step}
use Rattle.line_relay.specs.LineSamples.{Numbered, number_of_sample, is_ready}
use Rattle.line_relay.specs.Phasors.{phasors_of, phasor_of, eight}
use Rattle.line_relay.specs.Measured.{measured}
use Rattle.line_relay.specs.Guards.{measured_at}
use Rattle.line_relay.specs.Operate.{is_tripped_at}
use Rattle.line_relay.specs.Facts.{facts_of}
use Rattle.line_relay.specs.Outcomes.{number_taken, taken_samples, outcome_of}
use Rattle.line_relay.specs.Steps.{step_of}
use Rattle.line_relay.specs.Events.{arrival, changes, told}
use Rattle.line_relay.specs.Bursts.{PlainBurst, moment, burst}
use Rattle.line_relay.proofs.FrontLemmas.{rises}
use Rattle.line_relay.proofs.LineLemmas.{newest, taken, untaken, came_is, step_phasors}
use Rattle.breaker_guard.specs.declared.waits.GuardTimes.{GuardTimes}
use Rattle.breaker_guard.specs.declared.waits.Waits.{Waits}
use Rattle.breaker_guard.specs.declared.watch.Watch.{Watch}
use Rattle.breaker_guard.specs.declared.event.GuardWhat.{GuardWhat}
use Rattle.breaker_guard.specs.declared.event.GuardEvent.{GuardEvent}
use Rattle.breaker_guard.specs.GuardTakes.{take_of, number_of, trip_now, has_current, is_flowing_at, guard_take, guard_takes}
use Rattle.breaker_guard.specs.TripSpans.{trips_of}
use Rattle.breaker_guard.specs.TripEvents.{trip_after}
use Rattle.breaker_guard.specs.Guarding.{waits_of, listed, told_at, AreTimes, AreWaits}
use Rattle.breaker_guard.specs.GuardEvents.{events_at, events_by, guard_events}
use Rattle.breaker_guard.specs.KeptWatch.{StandsFor as WatchStandsFor}
use Rattle.breaker_guard.proofs.BurstLemmas.{trip-told}

-- current flows, by the phasors
flowing-is : (common : Common) (settings : PlainLine) (past : List Numbered) →
    option_map_or (λ ps. has_current common.n settings.open_i (measured ps)) (phasors_of common.n settings.mimic past) false ≡ is_flowing_at common settings past
unfolding measured_at
flowing-is common settings past = either (is_ready common.n settings.mimic past)
  where
    either : (b : Bool) → option_map_or (λ ps. has_current common.n settings.open_i (measured ps)) (if b then Some (eight (phasor_of common.n settings.mimic past)) else None) false
        ≡ (b && has_current common.n settings.open_i (measured (eight (phasor_of common.n settings.mimic past))))
    either true = refl
    either false = refl

-- the trip at the newest sample is the newest take's; of no samples it doesn't stand
trip-is : (common : Common) (settings : PlainLine) (past : List Numbered) → trip_now (guard_takes common settings past) ≡ is_tripped_at common settings past
unfolding at_each stands any_below
trip-is common settings [] = refl
trip-is common settings (s ∷ older) = refl

take-more : (common : Common) (settings : PlainLine) (s : Numbered) (past : List Numbered) →
    guard_take common settings (s ∷ past) ∷ guard_takes common settings past ≡ guard_takes common settings (s ∷ past)
unfolding at_each
take-more common settings s past = refl

takes-rise : (common : Common) (settings : PlainLine) (past : List Numbered) → Rises number_of_sample past → Rises number_of (guard_takes common settings past)
takes-rise common settings past r = Rises-at_each number_of_sample (guard_take common settings) number_of (λ x older. refl) past r

-- as long as a sample each
pub some-waits : (rate : ℕ) (times : GuardTimes) → 1 < rate → AreTimes times → AreWaits (waits_of rate times)
some-waits rate times rated are = record { fail = some times.fail_ms are.fail_low; dead = some times.dead_ms are.dead_low }
  where
    some : (ms : ℕ) → 1 ≤ ms → 1 ≤ samples rate ms
    some ms h = (let least : 1 * 1 ≤ ms * rate = mul-le-mul {n₁ = 1} {m₁ = 1} {n₂ = ms} {m₂ = rate} h (omega (arith, rated)) in le-div 1 (ms * rate + 999) 1000 (omega arith) (omega arith))

module _ (common : Common) (settings : PlainLine) (times : GuardTimes) (a : PlainAsdu) (asdus : List PlainAsdu) (step : Step) (came : step ≡ step_of common settings a asdus) where
  -- a sample set that isn't taken
  pub none-taken : number_taken step.outcome ≡ None → [] ≡ guard_events common settings times (a ∷ asdus)
  none-taken none =
      sym (ap (λ o. events_by common settings times o (taken_samples common settings (a ∷ asdus))) (ap number_taken (came_is common settings a asdus step came) ∙ none))

  pub same-takes : number_taken step.outcome ≡ None → guard_takes common settings (taken_samples common settings asdus) ≡ guard_takes common settings (taken_samples common settings (a ∷ asdus))
  same-takes none = ap (guard_takes common settings) (sym (untaken common settings a asdus (ap number_taken (came_is common settings a asdus step came) ∙ none)))

  -- one that is
  module _ (number : ℕ) (is : number_taken step.outcome ≡ Some number) where
    abbrev next : Numbered
    next = newest common settings a asdus number

    abbrev past : List Numbered
    past = taken_samples common settings asdus

    some-taken : number_taken (outcome_of common settings a asdus) ≡ Some number
    some-taken = ap number_taken (came_is common settings a asdus step came) ∙ is

    newer : taken_samples common settings (a ∷ asdus) ≡ next ∷ past
    newer = taken common settings a asdus number some-taken

    pub trip-brought : (was : Bool) (items : List Event) (brought : PlainBurst) → was ≡ trip_now (guard_takes common settings past) →
        brought ≡ burst common settings (a ∷ asdus) → items ≡ brought.events → trip_after was items ≡ is_tripped_at common settings (next ∷ past)
    trip-brought was items brought w b has =
        ap₂ trip_after (w ∙ trip-is common settings past)
        (has ∙ ap (λ (x : PlainBurst). x.events) b
        ∙ ap (λ ss. told (moment common settings (a ∷ asdus)) (arrival a.counter (outcome_of common settings a asdus) ++ changes (facts_of common settings past) (facts_of common settings ss))) newer)
        ∙ trip-told (moment common settings (a ∷ asdus)) a.counter (outcome_of common settings a asdus) (facts_of common settings past) (facts_of common settings (next ∷ past))

    pub flowing-brought : (n open_i : ℕ) → n ≡ common.n → open_i ≡ settings.open_i →
        option_map_or (λ ps. has_current n open_i (measured ps)) step.phasors false ≡ is_flowing_at common settings (next ∷ past)
    flowing-brought n open_i same same_i =
        ap₂ (λ m i. option_map_or (λ ps. has_current m i (measured ps)) step.phasors false) same same_i
        ∙ ap (λ (o : Option (List Cx)). option_map_or (λ ps. has_current common.n settings.open_i (measured ps)) o false)
        (ap (λ (t : Step). t.phasors) came ∙ step_phasors common settings a asdus number some-taken ∙ ap (phasors_of common.n settings.mimic) newer)
        ∙ flowing-is common settings (next ∷ past)

    module _ (trip flowing : Bool) (trips : trip ≡ is_tripped_at common settings (next ∷ past)) (flows : flowing ≡ is_flowing_at common settings (next ∷ past)) where
      pub takes-are : take_of number trip flowing ∷ guard_takes common settings past ≡ guard_takes common settings (taken_samples common settings (a ∷ asdus))
      takes-are =
          ap₂ (λ b c. take_of number b c ∷ guard_takes common settings past) trips flows ∙ take-more common settings next past ∙ ap (guard_takes common settings) (sym newer)

      pub rises-on : Rises number_of (take_of number trip flowing ∷ guard_takes common settings past)
      rises-on = subst (Rises number_of) (sym takes-are) (takes-rise common settings (taken_samples common settings (a ∷ asdus)) (rises common settings (a ∷ asdus)))

      -- what is told of it
      pub told-next : (what : Option GuardWhat) (event : List GuardEvent) →
          listed what ≡ told_at (waits_of common.rate times) number (trips_of (take_of number trip flowing ∷ guard_takes common settings past)) →
          event ≡ events_at (time_of common number) (listed what) → event ≡ guard_events common settings times (a ∷ asdus)
      told-next what event said as_event =
          as_event ∙ ap (events_at (time_of common number)) (said ∙ ap (λ ts. told_at (waits_of common.rate times) number (trips_of ts)) takes-are)
          ∙ ap (λ o. events_by common settings times o (taken_samples common settings (a ∷ asdus))) (sym some-taken)

      pub watch-next : (watch : Watch) → WatchStandsFor (waits_of common.rate times) (take_of number trip flowing ∷ guard_takes common settings past) watch →
          WatchStandsFor (waits_of common.rate times) (guard_takes common settings (taken_samples common settings (a ∷ asdus))) watch
      watch-next watch holds = subst (λ ts. WatchStandsFor (waits_of common.rate times) ts watch) takes-are holds

-- of no samples
pub new-watch : (common : Common) (settings : PlainLine) (times : GuardTimes) (waits : Waits) (watch : Watch) → waits ≡ waits_of common.rate times →
    WatchStandsFor waits [] watch → WatchStandsFor (waits_of common.rate times) (guard_takes common settings []) watch
unfolding at_each
new-watch common settings times waits watch same stands = subst (λ w. WatchStandsFor w [] watch) same stands
