-- The trip that waits, and what is told, after one more sample.
use Rattle.std.proofs.Common.{◌≡◌, ◌∙◌, ℕ, suc, ◌+◌, ◌-◌, ◌*◌, ◌<◌, Bool, true, false, not, ◌&&◌, ◌==◌, refl, sym, ap, ap₂, arith, List, [], ◌∷◌, Option, Some, None, inl, inr}
use Rattle.std.specs.Prelude.{nat_le, nat_lt, if◌then◌else◌}
use Rattle.std.specs.Option.{option_map}
use Rattle.std.proofs.lemmas.Bool.{cases_Bool, le-leb, lt-leb, cond-true, cond-false, and_left, and_right}
use Rattle.std.proofs.lemmas.Bool.Decides.{nat_tests}
use Rattle.sample_windows.specs.Windows.{newest_where}
use Rattle.sample_windows.specs.Numbered.{Rises, newest_number}
use Rattle.relay_num.specs.declared.Cx.{Cx}
use Rattle.relay_settings.specs.declared.types.Common.{Common}
use Rattle.relay_settings.specs.Settings.{PlainLine}
use Rattle.event_record.specs.Time.{time_of}
use Rattle.line_relay.specs.LineSamples.{Numbered, number_of_sample}
use Rattle.line_relay.specs.Phasors.{phasors_of, phasor_of, eight}
use Rattle.line_relay.specs.Measured.{measured}
use Rattle.line_relay.specs.Guards.{is_ready_at, measured_at}
use Rattle.fault_locate.specs.declared.located.Located.{Located}
use Rattle.fault_locate.specs.declared.waiting.Waiting.{Waiting}
use Rattle.fault_locate.specs.TripLoops.{is_trip_at, loop_at}
use Rattle.fault_locate.specs.Locating.{current_before, located_with, is_measurable_at, located_after, located_at}
use Rattle.fault_locate.specs.KeptLookback.{kept_before, currents_of_run}
use Rattle.fault_locate.proofs.RunLemmas.{before-is}
use Rattle.fault_locate.specs.KeptWaiting.{waiting_by, due_at, left_at, located_by_measured, measured_on_time, waiting_after, waiting_at}

-- a number a cycle behind another
behind : (n t s : ℕ) → 0 < n → nat_le n (s - t) ≡ nat_le (t + n) s
behind n t s some = grind (arith, nat_tests)

behind-exactly : (n t s : ℕ) → 0 < n → (s - t == n) ≡ (s == t + n)
behind-exactly n t s some = grind (arith, nat_tests)

not-behind : (n t s : ℕ) → nat_lt s (t + n) ≡ false → nat_le (t + n) s ≡ true
not-behind n t s h = grind (arith, nat_tests)

due-or-not : (n t s : ℕ) → 0 < n → nat_le n (s - t) ≡ not (nat_lt s (t + n))
due-or-not n t s some = grind (arith, nat_tests)

still-not : (before m s : ℕ) → nat_lt before m ≡ false → before < s → nat_lt s m ≡ false
still-not before m s e h = grind (arith, nat_tests)

newest-below : (s : Numbered) (past : List Numbered) → Rises number_of_sample (s ∷ past) → (past ≡ [] → ⊥) → newest_number number_of_sample past < s.number
newest-below s [] r any = absurd (any refl)
newest-below s (p ∷ older) r any = r.0

and_true : (b : Bool) → (b && true) ≡ b
and_true true = refl
and_true false = refl

module _ (common : Common) (settings : PlainLine) (some : 0 < common.n) where
  abbrev pub trip_with : ℕ → List Numbered → ℕ → Waiting
  trip_with number samples lp = record { number = number; lp = lp; before = current_before common settings lp samples }

  -- at a trip
  pub trip-told : (s : Numbered) (past : List Numbered) → is_trip_at common settings (s ∷ past) ≡ true → located_at common settings (s ∷ past) ≡ None
  unfolding newest_where
  trip-told s past e =
      let early : nat_le (s.number + common.n) s.number ≡ false = lt-leb (s.number + common.n) s.number (omega arith) in
      ap (λ trips. located_after common settings trips (s ∷ past)) (cond-true _ _ _ e) ∙ cond-false _ _ _ (and_left _ _ early)

  trip-waits : (s : Numbered) (past : List Numbered) → is_trip_at common settings (s ∷ past) ≡ true →
      waiting_at common settings (s ∷ past) ≡ option_map (trip_with s.number (s ∷ past)) (loop_at common settings (s ∷ past))
  unfolding newest_where
  trip-waits s past e =
      ap (λ trips. waiting_after common settings trips (s ∷ past)) (cond-true _ _ _ e) ∙ cond-true _ _ _ (le-leb (suc s.number) (s.number + common.n) (omega arith))

  -- and so it is kept
  trip-kept : (number : ℕ) (samples : List Numbered) → Rises number_of_sample samples → (loop : Option ℕ) →
      waiting_by settings number (kept_before (2 * common.n) (currents_of_run common settings samples)) loop ≡ option_map (trip_with number samples) loop
  trip-kept number samples r None = refl
  trip-kept number samples r (Some lp) =
      let waiting : Option Cx → Option Waiting = λ before. Some (record { number = number; lp = lp; before = before }) in
      ap waiting (before-is common settings lp samples r)

  pub trip-next : (s : Numbered) (past : List Numbered) → Rises number_of_sample (s ∷ past) → is_trip_at common settings (s ∷ past) ≡ true →
      (waiting : Option Waiting) (number : ℕ) (before : Option (List Cx)) (loop : Option ℕ) → waiting ≡ waiting_by settings number before loop →
      number ≡ s.number → before ≡ kept_before (2 * common.n) (currents_of_run common settings (s ∷ past)) → loop ≡ loop_at common settings (s ∷ past) →
      waiting ≡ waiting_at common settings (s ∷ past)
  trip-next s past r e waiting number before loop is same kept first =
      is ∙ ap₂ (λ n b. waiting_by settings n b loop) same kept
      ∙ ap (waiting_by settings s.number (kept_before (2 * common.n) (currents_of_run common settings (s ∷ past)))) first
      ∙ trip-kept s.number (s ∷ past) r (loop_at common settings (s ∷ past)) ∙ sym (trip-waits s past e)

  -- what is told of a trip that is due
  abbrev pub told_of : List Numbered → Waiting → Located
  told_of past trip =
      located_by_measured settings (time_of common (newest_number number_of_sample past)) trip
      (measured_on_time common.n (newest_number number_of_sample past) trip (option_map measured (phasors_of common.n settings.mimic past)))

  located-is : (lp t : ℕ) (before : Option Cx) (past : List Numbered) →
      located_with common settings lp before (is_measurable_at common settings (t + common.n) past) past ≡ told_of past (record { number = t; lp = lp; before = before })
  unfolding measured_at
  located-is lp t before past =
      either (newest_number number_of_sample past == t + common.n) (is_ready_at common settings past)
      ∙ ap (λ b. located_by_measured settings (time_of common (newest_number number_of_sample past)) (record { number = t; lp = lp; before = before })
      (if b then option_map measured (phasors_of common.n settings.mimic past) else None)) (sym (behind-exactly common.n t (newest_number number_of_sample past) some))
    where
      either : (on_time ready : Bool) → located_with common settings lp before (on_time && ready) past
          ≡ located_by_measured settings (time_of common (newest_number number_of_sample past)) (record { number = t; lp = lp; before = before })
          (if on_time then option_map measured (if ready then Some (eight (phasor_of common.n settings.mimic past)) else None) else None)
      either true true = refl
      either true false = refl
      either false ready = refl

  -- of a trip before the newest sample, whose loop this is
  module _ (s : Numbered) (past : List Numbered) (t : ℕ) (trip : List Numbered) where
    left-due : (loop : Option ℕ) → (if nat_lt s.number (t + common.n) then option_map (trip_with t trip) loop else None) ≡ left_at common.n s.number (option_map (trip_with t trip) loop)
    left-due None = none (nat_lt s.number (t + common.n))
      where
        none : (b : Bool) → ◌≡◌ {A = Option Waiting} (if b then None else None) None
        none true = refl
        none false = refl
    left-due (Some lp) = flip (nat_lt s.number (t + common.n)) (nat_le common.n (s.number - t)) (trip_with t trip lp) (due-or-not common.n t s.number some)
      where
        flip : (b c : Bool) (w : Waiting) → c ≡ not b → (if b then Some w else None) ≡ (if c then None else Some w)
        flip true c w e = rw e refl
        flip false c w e = rw e refl

    left-by : (loop : Option ℕ) → Rises number_of_sample (s ∷ past) → (past ≡ [] → ⊥) →
        (if nat_lt s.number (t + common.n) then option_map (trip_with t trip) loop else None)
        ≡ left_at common.n s.number (if nat_lt (newest_number number_of_sample past) (t + common.n) then option_map (trip_with t trip) loop else None)
    left-by loop r any = elim (cases_Bool (nat_lt (newest_number number_of_sample past) (t + common.n))) [
      | inl e ↦ left-due loop ∙ ap (left_at common.n s.number) (sym (cond-true _ _ _ e))
      | inr e ↦ cond-false _ _ _ (still-not (newest_number number_of_sample past) (t + common.n) s.number e (newest-below s past r any)) ∙ ap (left_at common.n s.number) (sym (cond-false _ _ _ e))
    ]

    told-due : (loop : Option ℕ) →
        (if nat_le (t + common.n) s.number
        then option_map (λ lp. located_with common settings lp (current_before common settings lp trip) (is_measurable_at common settings (t + common.n) (s ∷ past)) (s ∷ past)) loop else None)
        ≡ option_map (told_of (s ∷ past)) (due_at common.n s.number (option_map (trip_with t trip) loop))
    told-due None = none (nat_le (t + common.n) s.number)
      where
        none : (b : Bool) → ◌≡◌ {A = Option Located} (if b then None else None) None
        none true = refl
        none false = refl
    told-due (Some lp) =
        same (nat_le (t + common.n) s.number) (nat_le common.n (s.number - t)) _ (trip_with t trip lp) (behind common.n t s.number some)
        (located-is lp t (current_before common settings lp trip) (s ∷ past))
      where
        same : (b c : Bool) (x : Located) (w : Waiting) → c ≡ b → x ≡ told_of (s ∷ past) w → (if b then Some x else None) ≡ option_map (told_of (s ∷ past)) (if c then Some w else None)
        same true c x w e is = rw e (ap Some is)
        same false c x w e is = rw e refl

    told-by : (loop : Option ℕ) →
        (if nat_le (t + common.n) s.number && nat_lt (newest_number number_of_sample past) (t + common.n)
        then option_map (λ lp. located_with common settings lp (current_before common settings lp trip) (is_measurable_at common settings (t + common.n) (s ∷ past)) (s ∷ past)) loop else None)
        ≡ option_map (told_of (s ∷ past)) (due_at common.n s.number (if nat_lt (newest_number number_of_sample past) (t + common.n) then option_map (trip_with t trip) loop else None))
    told-by loop = either (nat_lt (newest_number number_of_sample past) (t + common.n))
      where
        either : (waits : Bool) →
            (if nat_le (t + common.n) s.number && waits
            then option_map (λ lp. located_with common settings lp (current_before common settings lp trip) (is_measurable_at common settings (t + common.n) (s ∷ past)) (s ∷ past)) loop else None)
            ≡ option_map (told_of (s ∷ past)) (due_at common.n s.number (if waits then option_map (trip_with t trip) loop else None))
        either true =
            ap (λ b. if b then option_map (λ lp. located_with common settings lp (current_before common settings lp trip) (is_measurable_at common settings (t + common.n) (s ∷ past)) (s ∷ past)) loop else None)
            (and_true (nat_le (t + common.n) s.number))
            ∙ told-due loop
        either false = cond-false _ _ _ (and_right (nat_le (t + common.n) s.number) false refl)

  -- at a sample that is no trip
  module _ (s : Numbered) (past : List Numbered) (r : Rises number_of_sample (s ∷ past)) (e : is_trip_at common settings (s ∷ past) ≡ false) where
    newest-trip : newest_where (is_trip_at common settings) (s ∷ past) ≡ newest_where (is_trip_at common settings) past
    unfolding newest_where
    newest-trip = cond-false _ _ _ e

    some_trip : (samples : List Numbered) (t : Numbered) (o : List Numbered) → newest_where (is_trip_at common settings) samples ≡ t ∷ o → samples ≡ [] → ⊥
    unfolding newest_where
    some_trip [] t o is none = cc
    some_trip (x ∷ older) t o is none = cc

    left-after : (trips : List Numbered) → newest_where (is_trip_at common settings) past ≡ trips →
        waiting_after common settings trips (s ∷ past) ≡ left_at common.n s.number (waiting_after common settings trips past)
    left-after [] is = refl
    left-after (t ∷ o) is = left-by s past t.number (t ∷ o) (loop_at common settings (t ∷ o)) r (some_trip past t o is)

    pub waits-on : waiting_at common settings (s ∷ past) ≡ left_at common.n s.number (waiting_at common settings past)
    waits-on = ap (λ trips. waiting_after common settings trips (s ∷ past)) newest-trip ∙ left-after (newest_where (is_trip_at common settings) past) refl

    told-after : (trips : List Numbered) → located_after common settings trips (s ∷ past) ≡ option_map (told_of (s ∷ past)) (due_at common.n s.number (waiting_after common settings trips past))
    told-after [] = refl
    told-after (t ∷ o) = told-by s past t.number (t ∷ o) (loop_at common settings (t ∷ o))

    pub told-is : located_at common settings (s ∷ past) ≡ option_map (told_of (s ∷ past)) (due_at common.n s.number (waiting_at common settings past))
    told-is = ap (λ trips. located_after common settings trips (s ∷ past)) newest-trip ∙ told-after (newest_where (is_trip_at common settings) past)
