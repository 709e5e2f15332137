-- What is kept of the trips, and what is told, after one more sample.
use Rattle.std.proofs.Common.{◌≡◌, ◌∙◌, ℕ, ◌+◌, ◌-◌, ◌<◌, ◌≤◌, Bool, true, false, not, ◌&&◌, ◌||◌, refl, sym, ap, ap₂, subst, arith, List, [], ◌∷◌, ◌++◌, length, Option, Some, None}
use Rattle.std.specs.Prelude.{if◌then◌else◌, nat_le, ◌==◌, is_some, slice_get}
use Rattle.std.specs.Option.{option_or, option_and_then}
use Rattle.std.proofs.lemmas.Bool.{true≢false, false≢true, and_right, lt-leb, eq-eqb, ne_eqb}
use Rattle.std.proofs.lemmas.Bool.Decides.{nat_tests}
use Rattle.sample_windows.specs.Numbered.{Rises}
use Rattle.breaker_guard.specs.declared.waits.Waits.{Waits}
use Rattle.breaker_guard.specs.declared.event.GuardWhat.{GuardWhat}
use Rattle.breaker_guard.specs.declared.event.GuardWhat.TheVariants.{Final}
use Rattle.breaker_guard.specs.declared.watch.Stage.{Stage}
use Rattle.breaker_guard.specs.declared.watch.Stage.TheVariants.{Idle, Standing, Waiting}
use Rattle.breaker_guard.specs.declared.watch.Watch.{Watch}
use Rattle.breaker_guard.specs.GuardTakes.{GuardTake, take_of, number_of, trip_now}
use Rattle.breaker_guard.specs.TripSpans.{TripSpan, begun, longer, trips_of, first_where, reset_of}
use Rattle.breaker_guard.specs.Guarding.{listed, is_number, fails_at, dead_until, reclosings, is_final, recloses_at, told_at, AreWaits}
use Rattle.breaker_guard.specs.OneLine.{HaveOneLine}
use Rattle.breaker_guard.specs.KeptWatch.{StandsFor, stage_by, stage_of, closed_of, WatchStep, reclaims, rise_step, idle_step, end_step, wait_step, stand_step, is_failing, step_of}
use Rattle.breaker_guard.proofs.SpanLemmas.{or_none, stands_by, next_trips, stands-is, AreBelow, IsWithin, below-newest, none-yet, fails-within, dead-within, reclaims-are, whats, whats-same, not-number, none-told}

-- these trips are what a step has come to, and what they tell at the number is what it tells
pub record IsStep (waits : Waits) (number : ℕ) (trips : List TripSpan) (step : WatchStep) : Type 0 where
  pub stage : stage_of waits trips ≡ step.stage
  pub closed : closed_of waits trips ≡ step.closed
  pub told : told_at waits number trips ≡ listed step.told

none-either : (b : Bool) → (let o : Option ℕ = if b then None else None in o) ≡ None
none-either true = refl
none-either false = refl

or_false : (b : Bool) → (b || false) ≡ b
or_false true = refl
or_false false = refl

and_true : (b : Bool) → (b && true) ≡ b
and_true true = refl
and_true false = refl

no-reset : (o : Option ℕ) → true ≡ not (is_some o) → o ≡ None
no-reset None e = refl
no-reset (Some x) e = absurd (true≢false e)

pub record HasReset (o : Option ℕ) : Type 0 where
  pub number : ℕ
  pub is : o ≡ Some number

has-reset : (o : Option ℕ) → false ≡ not (is_some o) → HasReset o
has-reset None e = absurd (false≢true e)
has-reset (Some x) e = record { number = x; is = refl }

behind : (wait from number : ℕ) → 1 ≤ wait → nat_le (from + wait) number ≡ nat_le wait (number - from)
behind wait from number some = grind (arith, nat_tests)

-- the first newest reclosing, where there is one more or none
closed-with : (o : Option ℕ) (es : List ℕ) → o ≡ None → slice_get (listed o ++ es) 0 ≡ slice_get es 0
closed-with o es e = ap (λ x. slice_get (listed x ++ es) 0) e

module _ (waits : Waits) (long : AreWaits waits) (number : ℕ) (flowing : Bool) where
  -- ---- a trip rises

  abbrev risen : GuardTake
  risen = take_of number true flowing

  fails-late : fails_at waits (begun risen) ≡ None
  fails-late =
      ap (λ b. if b then Some number else None)
      (and_right flowing (nat_le (number + waits.fail) number) (lt-leb (number + waits.fail) number (let f : 1 ≤ waits.fail = long.fail in omega arith)))

  told-final : (b : Bool) → whats b false false [] ≡ listed (if b then Some Final else None)
  told-final true = refl
  told-final false = refl

  rise-is : (trips : List TripSpan) → AreBelow number trips → IsStep waits number (begun risen ∷ trips) (rise_step waits number (closed_of waits trips))
  rise-is trips below =
      let again = reclaims-are waits number number trips below (omega arith) in
      let none : recloses_at waits (begun risen) trips ≡ None = none-either (is_some (fails_at waits (begun risen)) || is_final waits (begun risen) trips) in
      record {
        stage = ap₂ (λ f b. Standing number f b) (ap is_some fails-late) again;
        closed = closed-with _ (reclosings waits trips) none;
        told =
            whats-same _ (reclaims waits.reclaim number (closed_of waits trips)) _ false _ false _ []
            (ap (λ b. is_final waits (begun risen) trips && b) (eq-eqb number number refl) ∙ and_true (is_final waits (begun risen) trips) ∙ again)
            (ap (is_number number) fails-late) (ap (is_number number) none) (none-told waits number number trips below (omega arith))
            ∙ told-final (reclaims waits.reclaim number (closed_of waits trips));
      }

  rise-idle : (b : Bool) (reset : ℕ) (closed : Option ℕ) → step_of waits risen (if b then Idle else Waiting reset) closed ≡ rise_step waits number closed
  rise-idle true reset closed = refl
  rise-idle false reset closed = refl

  rises : (trips : List TripSpan) → AreBelow number trips → false ≡ stands_by trips →
      IsStep waits number (begun risen ∷ trips) (step_of waits risen (stage_of waits trips) (closed_of waits trips))
  rises [] below e = rise-is [] below
  rises (trip ∷ older) below e =
      let reset = has-reset (reset_of trip) e in
      let same : step_of waits risen (stage_of waits (trip ∷ older)) (closed_of waits (trip ∷ older)) ≡ rise_step waits number (closed_of waits (trip ∷ older)) =
      ap (λ o. step_of waits risen (stage_by trip.rise (is_some (fails_at waits trip)) (is_final waits trip older) o (is_some (dead_until waits trip))) (closed_of waits (trip ∷ older))) reset.is
      ∙ rise-idle _ reset.number (closed_of waits (trip ∷ older)) in
      subst (IsStep waits number (begun risen ∷ trip ∷ older)) (sym same) (rise-is (trip ∷ older) below)

  -- ---- the newest trip goes on

  module _ (trip : TripSpan) (older : List TripSpan) (below : AreBelow number (trip ∷ older)) where
    abbrev was_final : Bool
    was_final = is_final waits trip older

    not-final : (is_final waits trip older && trip.rise == number) ≡ false
    not-final = and_right was_final (trip.rise == number) (ne_eqb trip.rise number (λ e. (let u : trip.rise < number = below.0.rise in absurd (omega arith))))

    none-older : told_at waits number older ≡ []
    none-older = none-told waits trip.rise number older below.1 (let u : trip.rise < number = below.0.rise in omega arith)

    fails-before : is_number number (fails_at waits trip) ≡ false
    fails-before = not-number (fails_at waits trip) number number (λ x e. (fails-within waits number trip below.0 x e).1) (omega arith)

    -- it stands on
    abbrev on : TripSpan
    on = longer risen trip

    grows : (o : Option ℕ) (b : Bool) (final : Bool) (rise : ℕ) (closed : Option ℕ) → is_number number o ≡ false → (stage : Stage) →
        stage ≡ Standing rise (is_some (option_or o (if b then Some number else None))) final →
        stage ≡ (stand_step (not (is_some o) && b) rise (is_some o) final closed).stage
    grows None true final rise closed n stage e = e
    grows None false final rise closed n stage e = e
    grows (Some x) b final rise closed n stage e = e

    grows-told : (o : Option ℕ) (b : Bool) (final : Bool) (rise : ℕ) (closed : Option ℕ) → is_number number o ≡ false →
        whats false (is_number number (option_or o (if b then Some number else None))) false [] ≡ listed (stand_step (not (is_some o) && b) rise (is_some o) final closed).told
    grows-told None true final rise closed n = ap (λ b. whats false b false []) (eq-eqb number number refl)
    grows-told None false final rise closed n = refl
    grows-told (Some x) b final rise closed n = ap (λ b. whats false b false []) n

    stand-closed : (b : Bool) (rise : ℕ) (failed final : Bool) (closed : Option ℕ) → (stand_step b rise failed final closed).closed ≡ closed
    stand-closed true rise failed final closed = refl
    stand-closed false rise failed final closed = refl

    stands-on : true ≡ stands_by (trip ∷ older) → IsStep waits number (on ∷ older) (step_of waits risen (stage_of waits (trip ∷ older)) (closed_of waits (trip ∷ older)))
    stands-on e =
        let none = no-reset (reset_of trip) e in
        let none-on : reset_of on ≡ None = or_none (reset_of trip) ∙ none in
        let closed = closed_of waits (trip ∷ older) in
        let failing = is_failing waits risen trip.rise (is_some (fails_at waits trip)) in
        let late : fails_at waits on ≡ option_or (fails_at waits trip) (if flowing && nat_le waits.fail (number - trip.rise) then Some number else None) =
        ap (λ b. option_or (fails_at waits trip) (if flowing && b then Some number else None)) (behind waits.fail trip.rise number long.fail) in
        let was : recloses_at waits trip older ≡ None =
        ap (λ o. if is_some (fails_at waits trip) || was_final then None else option_and_then (λ reset. first_where (λ t. nat_le (reset + waits.dead) t.number) trip.samples) o) none
        ∙ none-either (is_some (fails_at waits trip) || was_final) in
        let now : recloses_at waits on older ≡ None =
        ap (λ o. if is_some (fails_at waits on) || was_final then None else option_and_then (λ reset. first_where (λ t. nat_le (reset + waits.dead) t.number) on.samples) o) none-on
        ∙ none-either (is_some (fails_at waits on) || was_final) in
        let same : step_of waits risen (stage_of waits (trip ∷ older)) closed ≡ stand_step failing trip.rise (is_some (fails_at waits trip)) was_final closed =
        ap (λ o. step_of waits risen (stage_by trip.rise (is_some (fails_at waits trip)) was_final o (is_some (dead_until waits trip))) closed) none in
        subst (IsStep waits number (on ∷ older)) (sym same) (record {
          stage = grows (fails_at waits trip) _ was_final trip.rise closed fails-before _
              (ap (λ o. stage_by trip.rise (is_some (fails_at waits on)) was_final o (is_some (dead_until waits on))) none-on ∙ ap (λ o. Standing trip.rise (is_some o) was_final) late);
          closed = closed-with _ (reclosings waits older) now ∙ sym (closed-with _ (reclosings waits older) was)
              ∙ sym (stand-closed failing trip.rise (is_some (fails_at waits trip)) was_final closed);
          told =
              whats-same _ false _ (is_number number (option_or (fails_at waits trip) (if flowing && nat_le waits.fail (number - trip.rise) then Some number else None))) _ false _ []
              not-final (ap (is_number number) late) (ap (is_number number) now) none-older
              ∙ grows-told (fails_at waits trip) _ was_final trip.rise closed fails-before;
        })

    -- it doesn't stand any more
    abbrev off : TripSpan
    off = longer (take_of number false flowing) trip

    fails-off : fails_at waits off ≡ fails_at waits trip
    fails-off = or_none (fails_at waits trip)

    ends : true ≡ stands_by (trip ∷ older) →
        IsStep waits number (off ∷ older) (step_of waits (take_of number false flowing) (stage_of waits (trip ∷ older)) (closed_of waits (trip ∷ older)))
    ends e =
        let none = no-reset (reset_of trip) e in
        let reset : reset_of off ≡ Some number = ap (λ o. option_or o (Some number)) none in
        let closed = closed_of waits (trip ∷ older) in
        let failed = is_some (fails_at waits trip) in
        let waits-on : dead_until waits off ≡ None =
        ap (λ o. option_and_then (λ r. first_where (λ t. nat_le (r + waits.dead) t.number) off.samples) o) reset
        ∙ none-yet trip.rise (number + 1) (number + waits.dead) off.samples (off-within) (let d : 1 ≤ waits.dead = long.dead in omega arith) in
        let was : recloses_at waits trip older ≡ None =
        ap (λ o. if failed || was_final then None else option_and_then (λ r. first_where (λ t. nat_le (r + waits.dead) t.number) trip.samples) o) none
        ∙ none-either (failed || was_final) in
        let now : recloses_at waits off older ≡ None =
        ap (λ o. if is_some (fails_at waits off) || was_final then None else o) waits-on ∙ none-either (is_some (fails_at waits off) || was_final) in
        let same : step_of waits (take_of number false flowing) (stage_of waits (trip ∷ older)) closed ≡ end_step number failed was_final closed =
        ap (λ o. step_of waits (take_of number false flowing) (stage_by trip.rise failed was_final o (is_some (dead_until waits trip))) closed) none in
        subst (IsStep waits number (off ∷ older)) (sym same) (record {
          stage =
              ap (λ o. stage_by trip.rise (is_some (fails_at waits off)) was_final o (is_some (dead_until waits off))) reset
              ∙ ap₂ (λ f d. stage_by trip.rise (is_some f) was_final (Some number) (is_some d)) fails-off waits-on
              ∙ ap (λ b. if b then Idle else Waiting number) (or_false (failed || was_final));
          closed = closed-with _ (reclosings waits older) now ∙ sym (closed-with _ (reclosings waits older) was);
          told = whats-same _ false _ false _ false _ [] not-final (ap (is_number number) fails-off ∙ fails-before) (ap (is_number number) now) none-older;
        })
      where
        more : (n : ℕ) (samples : List GuardTake) → IsWithin trip.rise number samples → IsWithin trip.rise (number + 1) samples
        more n [] w = tt
        more n (t ∷ rest) w = (w.0, (let u : t.number < number = w.1 in omega arith), more n rest w.2)

        off-within : IsWithin trip.rise (number + 1) off.samples
        off-within = ((let u : trip.rise < number = below.0.rise in omega arith), omega arith, more 0 trip.samples below.0.samples)

    -- it waits to be reclosed, or nothing more comes of it
    abbrev waited : Bool → Option ℕ → Bool → ℕ → Option ℕ → WatchStep
    waited b d late reset closed = if b || is_some d then idle_step closed else wait_step late number reset closed

    -- where the dead time is over, by where it was before and whether it is now
    abbrev over : Option ℕ → Bool → Option ℕ
    over d late = option_or d (if late then Some number else None)

    wait-step : (b : Bool) (reset : ℕ) (closed : Option ℕ) → step_of waits (take_of number false flowing) (if b then Idle else Waiting reset) closed
        ≡ (if b then idle_step closed else wait_step (nat_le waits.dead (number - reset)) number reset closed)
    wait-step true reset closed = refl
    wait-step false reset closed = refl

    wait-stage : (b : Bool) (d : Option ℕ) (late : Bool) (reset : ℕ) (closed : Option ℕ) →
        (if b || is_some (over d late) then Idle else Waiting reset) ≡ (waited b d late reset closed).stage
    wait-stage true d late reset closed = refl
    wait-stage false (Some x) late reset closed = refl
    wait-stage false None true reset closed = refl
    wait-stage false None false reset closed = refl

    wait-closed : (b : Bool) (d : Option ℕ) (late : Bool) (reset : ℕ) (es : List ℕ) →
        slice_get (listed (if b then None else over d late) ++ es) 0 ≡ (waited b d late reset (slice_get (listed (if b then None else d) ++ es) 0)).closed
    wait-closed true d late reset es = refl
    wait-closed false (Some x) late reset es = refl
    wait-closed false None true reset es = refl
    wait-closed false None false reset es = refl

    wait-told : (b : Bool) (d : Option ℕ) (late : Bool) (reset : ℕ) (closed : Option ℕ) → is_number number d ≡ false →
        whats false false (is_number number (if b then None else over d late)) [] ≡ listed (waited b d late reset closed).told
    wait-told true d late reset closed n = refl
    wait-told false (Some x) late reset closed n = ap (λ h. whats false false h []) n
    wait-told false None true reset closed n = ap (λ h. whats false false h []) (eq-eqb number number refl)
    wait-told false None false reset closed n = refl

    goes-on : false ≡ stands_by (trip ∷ older) →
        IsStep waits number (off ∷ older) (step_of waits (take_of number false flowing) (stage_of waits (trip ∷ older)) (closed_of waits (trip ∷ older)))
    goes-on e =
        let reset = has-reset (reset_of trip) e in
        let at : ℕ = reset.number in
        let reset-off : reset_of off ≡ Some at = ap (λ o. option_or o (Some number)) reset.is in
        let closed = closed_of waits (trip ∷ older) in
        let none : Bool = is_some (fails_at waits trip) || was_final in
        let before : Option ℕ = first_where (λ t. nat_le (at + waits.dead) t.number) trip.samples in
        let late : Bool = nat_le waits.dead (number - at) in
        let was : dead_until waits trip ≡ before = ap (λ o. option_and_then (λ r. first_where (λ t. nat_le (r + waits.dead) t.number) trip.samples) o) reset.is in
        let now : dead_until waits off ≡ over before late =
        ap (λ o. option_and_then (λ r. first_where (λ t. nat_le (r + waits.dead) t.number) off.samples) o) reset-off
        ∙ ap (over before) (behind waits.dead at number long.dead) in
        let early : is_number number before ≡ false = ap (is_number number) (sym was) ∙ not-number (dead_until waits trip) number number (λ x e. (dead-within waits number trip below.0 x e).1) (omega arith) in
        let by : recloses_at waits off older ≡ (if none then None else over before late) = ap₂ (λ f d. if is_some f || was_final then None else d) fails-off now in
        let same : step_of waits (take_of number false flowing) (stage_of waits (trip ∷ older)) closed ≡ waited none before late at closed =
        ap (λ o. step_of waits (take_of number false flowing) (stage_by trip.rise (is_some (fails_at waits trip)) was_final o (is_some (dead_until waits trip))) closed) reset.is
        ∙ ap (λ d. step_of waits (take_of number false flowing) (stage_by trip.rise (is_some (fails_at waits trip)) was_final (Some at) (is_some d)) closed) was
        ∙ wait-step (none || is_some before) at closed in
        let kept : slice_get (listed (if none then None else before) ++ reclosings waits older) 0 ≡ closed =
        ap (λ d. slice_get (listed (if none then None else d) ++ reclosings waits older) 0) (sym was) in
        subst (IsStep waits number (off ∷ older)) (sym same) (record {
          stage =
              ap (λ o. stage_by trip.rise (is_some (fails_at waits off)) was_final o (is_some (dead_until waits off))) reset-off
              ∙ ap₂ (λ f d. stage_by trip.rise (is_some f) was_final (Some at) (is_some d)) fails-off now
              ∙ wait-stage none before late at closed;
          closed = ap (λ d. slice_get (listed d ++ reclosings waits older) 0) by ∙ wait-closed none before late at (reclosings waits older)
              ∙ ap (λ c. (waited none before late at c).closed) kept;
          told = whats-same _ false _ false _ _ _ [] not-final (ap (is_number number) fails-off ∙ fails-before) (ap (is_number number) by) none-older
              ∙ wait-told none before late at closed early;
        })

-- before the first trip
idles : (waits : Waits) (number : ℕ) (flowing : Bool) → IsStep waits number [] (step_of waits (take_of number false flowing) Idle None)
idles waits number flowing = record { stage = refl; closed = refl; told = refl }

step-is : (waits : Waits) → AreWaits waits → (number : ℕ) (trip flowing was : Bool) (trips : List TripSpan) → AreBelow number trips → was ≡ stands_by trips →
    IsStep waits number (next_trips (take_of number trip flowing) was trips) (step_of waits (take_of number trip flowing) (stage_of waits trips) (closed_of waits trips))
step-is waits long number true flowing false trips below e = rises waits long number flowing trips below e
step-is waits long number true flowing true [] below e = absurd (true≢false e)
step-is waits long number true flowing true (trip ∷ older) below e = stands-on waits long number flowing trip older below e
step-is waits long number false flowing was [] below e = idles waits number flowing
step-is waits long number false flowing true (trip ∷ older) below e = ends waits long number flowing trip older below e
step-is waits long number false flowing false (trip ∷ older) below e = goes-on waits long number flowing trip older below e

-- of the trips of some samples
pub next-is : (waits : Waits) → AreWaits waits → (t : GuardTake) (older : List GuardTake) → Rises number_of (t ∷ older) →
    IsStep waits t.number (trips_of (t ∷ older)) (step_of waits t (stage_of waits (trips_of older)) (closed_of waits (trips_of older)))
next-is waits long t older r = step-is waits long t.number t.trip t.flowing (trip_now older) (trips_of older) (below-newest t older r) (stands-is older)

one-listed : (told : Option GuardWhat) → length (listed told) ≤ 1
one-listed None = omega arith
one-listed (Some what) = omega arith

pub one-line : HaveOneLine
one-line waits long t older r =
    let step = step_of waits t (stage_of waits (trips_of older)) (closed_of waits (trips_of older)) in
    subst (λ (whats : List GuardWhat). length whats ≤ 1) (sym (next-is waits long t older r).told) (one-listed step.told)

-- ---- what is kept

abbrev pub is_standing : Stage → Bool
is_standing Idle = false
is_standing (Standing rise failed is_last) = true
is_standing (Waiting reset) = false

pub not-standing : (stage : Stage) → ((rise : ℕ) (failed final' : Bool) → stage ≡ Standing rise failed final' → ⊥) → is_standing stage ≡ false
not-standing Idle never = refl
not-standing (Standing rise failed final') never = absurd (never rise failed final' refl)
not-standing (Waiting reset) never = refl

standing-either : (b : Bool) (reset : ℕ) → is_standing (if b then Idle else Waiting reset) ≡ false
standing-either true reset = refl
standing-either false reset = refl

standing-by : (rise : ℕ) (failed final' : Bool) (reset : Option ℕ) (past_dead : Bool) → is_standing (stage_by rise failed final' reset past_dead) ≡ not (is_some reset)
standing-by rise failed final' None past_dead = refl
standing-by rise failed final' (Some reset) past_dead = standing-either (failed || final' || past_dead) reset

stage-stands : (waits : Waits) (trips : List TripSpan) → is_standing (stage_of waits trips) ≡ stands_by trips
stage-stands waits [] = refl
stage-stands waits (trip ∷ older) = standing-by trip.rise (is_some (fails_at waits trip)) (is_final waits trip older) (reset_of trip) (is_some (dead_until waits trip))

pub stage-is : (waits : Waits) (takes : List GuardTake) (watch : Watch) → StandsFor waits takes watch → is_standing watch.stage ≡ trip_now takes
stage-is waits takes watch stands = ap is_standing stands.stage ∙ stage-stands waits (trips_of takes) ∙ sym (stands-is takes)

-- the step of what is kept is that of the trips
pub kept-step : (waits : Waits) (takes : List GuardTake) (watch : Watch) → StandsFor waits takes watch → (t : GuardTake) →
    step_of watch.waits t watch.stage watch.closed ≡ step_of waits t (stage_of waits (trips_of takes)) (closed_of waits (trips_of takes))
kept-step waits takes watch stands t =
    ap (λ (w : Waits). step_of w t watch.stage watch.closed) stands.same_waits ∙ ap₂ (λ stage closed. step_of waits t stage closed) stands.stage stands.closed
