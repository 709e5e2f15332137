-- What a trip holds after one more take.
use Rattle.std.proofs.Common.{◌≡◌, ℕ, suc, ◌+◌, ◌<◌, ◌≤◌, Bool, true, false, not, ◌&&◌, cond, ◌||◌, eqb, ◌-◌, refl, sym, ap, ◌∙◌, arith, List, [], ◌∷◌, length, drop, inl, inr, leb, one-add}
use Rattle.std.proofs.lemmas.Bool.{cases_lt}
use Rattle.std.proofs.lemmas.Bool.Decides.{nat_tests}
use Rattle.std.specs.Prelude.{min, is_some, Some, None, if◌then◌else◌}
use Rattle.sample_windows.specs.Below.{any_below}
use Rattle.sample_windows.specs.Numbered.{newest_number, held_for, run_of}
use Rattle.sample_windows.proofs.NumberedLemmas.{held_for-run}
use Rattle.trip_logic.specs.Takes.{TripTake, number_of, dead_now, Follows, is_on}
use Rattle.trip_logic.specs.KeptTrip.{last_place, StandsFor}
use Rattle.trip_logic.specs.declared.Trip.{Trip}
use Rattle.trip_logic.proofs.OlderLemmas.{rises_next, run_next, number_le_newest}
use Rattle.trip_logic.proofs.SealLemmas.{over, is_on_none, is_on_is, last_found, none_found}

none≢some : {A : Type 0} (x : A) → None ≡ Some x → ⊥
none≢some x e = cc

-- a new trip stands for no takes
pub holds_nothing : (least open_run : ℕ) → StandsFor least open_run [] (record { min = least; open_run = open_run; last = None; ended = false; dead_run = 0 })
unfolding any_below run_of
holds_nothing least open_run = record {
  same_min = refl;
  same_open_run = refl;
  rises = tt;
  last = refl;
  ended = λ number e. refl;
  dead_run = omega arith;
}

module _ (least open_run : ℕ) (takes : List TripTake) (trip : Trip) (s : StandsFor least open_run takes trip) where
  pub held_is_on : (is_some trip.last && not trip.ended) ≡ is_on least open_run takes
  held_is_on = elim (cases_lt (last_place takes) (length takes)) [
    | inl h ↦ (let last = s.last ∙ last_found takes h in
        rw last (ap not (s.ended _ last) ∙ sym (is_on_is least open_run takes s.rises h)))
    | inr h ↦ (let last = s.last ∙ none_found takes h in
        rw last (sym (is_on_none least open_run takes h)))
  ]

  module _ (t : TripTake) (dead_run : ℕ) (follows : Follows t takes)
      (run : dead_run ≡ (if t.dead then min (trip.dead_run + 1) trip.open_run else 0)) where
    dead_run_next : dead_run ≡ min (run_of number_of dead_now (t ∷ takes)) open_run
    dead_run_next = run ∙ rw (s.dead_run, s.same_open_run, run_next t takes follows) (more t.dead (run_of number_of dead_now takes) open_run)
      where
        more : (b : Bool) (n m : ℕ) → (if b then min (min n m + 1) m else 0) ≡ min (cond b (1 + n) 0) m
        more true n m = omega arith
        more false n m = omega arith

    -- after a take that operates
    pub operated_next : t.operated ≡ true →
        StandsFor least open_run (t ∷ takes) (record trip { last = Some t.number; ended = false; dead_run = dead_run })
    unfolding any_below
    operated_next op = record {
      same_min = s.same_min;
      same_open_run = s.same_open_run;
      rises = rises_next t takes s.rises follows;
      last = rw op refl;
      ended = λ number e. rw op refl;
      dead_run = dead_run_next;
    }

    -- after a take that doesn't operate, where none has
    pub none_next : t.operated ≡ false → trip.last ≡ None → StandsFor least open_run (t ∷ takes) (record trip { dead_run = dead_run })
    none_next op none = record {
      same_min = s.same_min;
      same_open_run = s.same_open_run;
      rises = rises_next t takes s.rises follows;
      last = rw op s.last;
      ended = λ number e. absurd (none≢some number (sym none ∙ e));
      dead_run = dead_run_next;
    }

    -- after a take that doesn't operate, where the trip of an earlier one has now ended or not
    pub idle_next : (last : ℕ) (ended : Bool) → t.operated ≡ false → trip.last ≡ Some last →
        ended ≡ (trip.ended || (leb trip.min (t.number - last) && eqb dead_run trip.open_run)) →
        StandsFor least open_run (t ∷ takes) (record trip { ended = ended; dead_run = dead_run })
    unfolding any_below
    idle_next last ended op is now = record {
      same_min = s.same_min;
      same_open_run = s.same_open_run;
      rises = rises_next t takes s.rises follows;
      last = rw op s.last;
      ended = λ number e. now ∙ ended_is ∙ ap (λ p. over least open_run p (t ∷ takes)) (sym place_next);
      dead_run = dead_run_next;
    }
      where
        place : ℕ
        place = last_place takes

        place_next : last_place (t ∷ takes) ≡ suc place
        place_next = rw (op, one-add) refl

        within : place < length takes
        within = elim (cases_lt (last_place takes) (length takes)) [
          | inl h ↦ h
          | inr h ↦ (let none : None ≡ Some last = sym (none_found takes h) ∙ sym s.last ∙ is in cc)
        ]

        last_is : last ≡ newest_number number_of (drop place takes)
        last_is = (let e : Some last ≡ Some (newest_number number_of (drop place takes)) = sym is ∙ s.last ∙ last_found takes within in cc)

        not_above : newest_number number_of (drop place takes) ≤ t.number
        not_above = number_le_newest (t ∷ takes) (suc place) (rises_next t takes s.rises follows) (omega (arith, within))

        long : eqb dead_run trip.open_run ≡ (not t.operated && held_for number_of open_run dead_now (t ∷ takes))
        long = rw (dead_run_next, s.same_open_run)
            (full (run_of number_of dead_now (t ∷ takes)) open_run
            ∙ sym (held_for-run number_of dead_now refl open_run (t ∷ takes) (rises_next t takes s.rises follows))
            ∙ sym (ap (λ b. not b && held_for number_of open_run dead_now (t ∷ takes)) op))
          where
            full : (n m : ℕ) → eqb (min n m) m ≡ leb m n
            full n m = grind (arith, nat_tests)

        late : leb trip.min (t.number - last) ≡ leb (newest_number number_of (drop place takes) + least) t.number
        late = rw (s.same_min, last_is) (shifted least t.number (newest_number number_of (drop place takes)) not_above)
          where
            shifted : (k n m : ℕ) → m ≤ n → leb k (n - m) ≡ leb (m + k) n
            shifted k n m h = grind (arith, nat_tests)

        ended_is : (trip.ended || (leb trip.min (t.number - last) && eqb dead_run trip.open_run)) ≡
            ((leb (newest_number number_of (drop place takes) + least) t.number && (not t.operated && held_for number_of open_run dead_now (t ∷ takes))) || over least open_run place takes)
        ended_is = rw (s.ended last is, late, long) (or_swap (over least open_run place takes) _)
          where
            or_swap : (a b : Bool) → (a || b) ≡ (b || a)
            or_swap true true = refl
            or_swap true false = refl
            or_swap false true = refl
            or_swap false false = refl
