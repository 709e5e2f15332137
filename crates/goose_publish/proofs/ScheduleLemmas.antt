-- What a publisher holds after one more take.
use Rattle.std.proofs.Common.{◌≡◌, refl, ℕ, suc, ◌-◌, ◌*◌, ◌<◌, ◌≤◌, leb, true, false, sym, ap, ◌∙◌, arith, le_refl, inl, inr, List, [], ◌∷◌}
use Rattle.std.specs.Prelude.{Some, None, if◌then◌else◌, Bool, not, ◌==◌}
use Rattle.std.specs.Option.{ForSome}
use Rattle.std.specs.Bool.{beq}
use Rattle.std.proofs.lemmas.Bool.{cases_Bool, cond-true, cond-false, false≢true, and_parts, and_from, eqb-true, eq-eqb, not-false}
use Rattle.sample_windows.specs.Numbered.{Rises}
use Rattle.sample_windows.specs.Windows.{newest_where}
use Rattle.relay_settings.specs.declared.types.Common.{Common}
use Rattle.goose_publish.specs.declared.pace.Pace.{Pace}
use Rattle.goose_publish.specs.declared.points.Points.{Points}
use Rattle.goose_publish.specs.declared.schedule.Schedule.{Schedule}
use Rattle.relay_settings.specs.Times.{samples}
use Rattle.goose_publish.specs.Offsets.{offset_ms}
use Rattle.goose_publish.specs.Paces.{IsAt, Passed}
use Rattle.goose_publish.specs.Publishing.{PointsTake, RisesTo, number_now, same_points, changes_now, change_number, is_due, last_offset, live_ms, next_count, state, sequence}
use Rattle.goose_publish.specs.Schedules.{HasTaken, points_now}
use Rattle.goose_publish.proofs.OffsetLemmas.{samples_ge, due_is, last_is}

module _ (common : Common) (k : ℕ) (pace : Pace) (at : IsAt common k pace) where
  pub is_fast : 1000 ≤ common.rate
  is_fast = omega (arith, at.rate, pace.fast)

  pub has_heartbeat : 0 < common.heartbeat_ms
  has_heartbeat = omega (arith, at.heartbeat, pace.some, pace.short)

pub Passed-start : (common : Common) (pace : Pace) → IsAt common 0 pace → Passed common 0 pace
unfolding offset_ms
Passed-start common pace at = record {
  k = 0;
  at = at;
  passed = omega arith;
  ahead =
      let late = samples_ge common.rate (offset_ms common 1) (is_fast common 0 pace at) in
      omega (arith, late, has_heartbeat common 0 pace at);
}

pub change_le : (takes : List PointsTake) → Rises (λ t. t.number) takes → change_number takes ≤ number_now takes
unfolding newest_where
change_le [] r = le_refl 0
change_le (t ∷ []) r = le_refl t.number
change_le (t ∷ u ∷ older) r = elim (cases_Bool (changes_now (t ∷ u ∷ older))) [
  | inl e ↦ rw e (le_refl t.number)
  | inr e ↦ rw e (omega (arith, change_le (u ∷ older) r.1, r.0))
]

same_bool : (a b : Bool) → beq a b ≡ true → a ≡ b
same_bool true true e = refl
same_bool true false e = absurd (false≢true e)
same_bool false true e = absurd (false≢true e)
same_bool false false e = refl

abbrev made : Bool → Bool → Bool → Bool → ℕ → Bool → Points
made trip start swing fuse zones ready =
    record { trip = trip; start = start; swing = swing; fuse = fuse; zones = zones; ready = ready }

same_made : (a a' b b' c c' d d' : Bool) (z z' : ℕ) (r r' : Bool) →
    a ≡ a' → b ≡ b' → c ≡ c' → d ≡ d' → z ≡ z' → r ≡ r' → made a b c d z r ≡ made a' b' c' d' z' r'
same_made a a' b b' c c' d d' z z' r r' ea eb ec ed ez er = rw (ea, eb, ec, ed, ez, er) refl

-- points that are told the same are the same
same_is : (p q : Points) → same_points p q ≡ true → p ≡ q
same_is p q e =
    let trip = and_parts (beq p.trip q.trip) _ e in
    let start = and_parts (beq p.start q.start) _ trip.1 in
    let swing = and_parts (beq p.swing q.swing) _ start.1 in
    let fuse = and_parts (beq p.fuse q.fuse) _ swing.1 in
    let zones = and_parts (p.zones == q.zones) _ fuse.1 in
    same_made p.trip q.trip p.start q.start p.swing q.swing p.fuse q.fuse p.zones q.zones p.ready q.ready
    (same_bool _ _ trip.0) (same_bool _ _ start.0) (same_bool _ _ swing.0) (same_bool _ _ fuse.0)
    (eqb-true _ _ zones.0) (same_bool _ _ zones.1)

-- where a take changes nothing, its points are those of the take before
unchanged : (t : PointsTake) (takes : List PointsTake) → changes_now (t ∷ takes) ≡ false → points_now takes ≡ Some t.points
unchanged t [] e = absurd (false≢true (sym e))
unchanged t (u ∷ older) e = ap Some (sym (same_is t.points u.points (not-false _ e)))

same_true : (b : Bool) → beq b b ≡ true
same_true true = refl
same_true false = refl

same_as_itself : (p : Points) → same_points p p ≡ true
same_as_itself p =
    and_from _ _ (same_true p.trip) (and_from _ _ (same_true p.start) (and_from _ _ (same_true p.swing)
    (and_from _ _ (same_true p.fuse) (and_from _ _ (eq-eqb p.zones p.zones refl) (same_true p.ready)))))

-- a take with the points of the last one changes nothing
pub stays : (t : PointsTake) (takes : List PointsTake) → ForSome (points_now takes) (λ last. last ≡ t.points) →
    (points_now takes ≡ None → ⊥) → changes_now (t ∷ takes) ≡ false
stays t [] same some = absurd (some refl)
stays t (u ∷ older) same some = ap not (ap (same_points t.points) (same u.points refl) ∙ same_as_itself t.points)

module _ (common : Common) (takes : List PointsTake) (old : Schedule) (stands : HasTaken common takes old) where
  -- the greatest offset that doesn't fall above the newest number is the last that was passed
  pub live_is : 3 * (offset_ms common (suc stands.pace.k) - offset_ms common stands.pace.k) ≡ live_ms common takes
  unfolding last_offset
  live_is = sym (ap (λ k. 3 * (offset_ms common (suc k) - offset_ms common k)) last)
    where
      last : last_offset common takes ≡ stands.pace.k
      last = last_is common (is_fast common _ _ stands.pace.at) (has_heartbeat common _ _ stands.pace.at)
          (change_number takes) (number_now takes) stands.pace.k
          (change_le takes stands.rises) stands.pace.passed stands.pace.ahead

  module _ (t : PointsTake) (rises : RisesTo t takes) where
    pub changed_next : changes_now (t ∷ takes) ≡ true → (next : Schedule) →
        next.last ≡ Some t.points → next.change ≡ t.number → next.state ≡ next_count old.state → next.sequence ≡ 0 →
        IsAt common 0 next.pace → HasTaken common (t ∷ takes) next
    unfolding newest_where state sequence
    changed_next changes next last change count fresh at = record {
      rises = rises;
      last = last;
      change = change ∙ ap number_now (sym newest);
      state = count ∙ ap next_count stands.state ∙ sym (cond-true _ _ _ changes);
      sequence = fresh ∙ sym (cond-true _ _ _ changes);
      pace = rw (newest, young) (Passed-start common next.pace at);
    }
      where
        newest : newest_where changes_now (t ∷ takes) ≡ t ∷ takes
        newest = cond-true _ _ _ changes

        young : t.number - t.number ≡ 0
        young = omega arith

    module _ (age : ℕ) (aged : age ≡ t.number - old.change) (same : changes_now (t ∷ takes) ≡ false) where
      older_change : change_number (t ∷ takes) ≡ change_number takes
      unfolding newest_where
      older_change = ap number_now (cond-false _ _ _ same)

      goes_on : number_now takes < t.number
      goes_on = later takes rises same
        where
          later : (takes : List PointsTake) → RisesTo t takes → changes_now (t ∷ takes) ≡ false →
              number_now takes < t.number
          later [] r e = absurd (false≢true (sym e))
          later (u ∷ older) r e = r.0

      -- the offset that is next was passed before, so it was at most so old
      pub was_passed : samples common.rate (offset_ms common stands.pace.k) ≤ age
      was_passed = omega (arith, stands.pace.passed, stands.change, goes_on, aged)

      pub due_now : is_due common (t ∷ takes) ≡ leb (samples common.rate (offset_ms common (suc stands.pace.k))) age
      unfolding is_due
      due_now = rw (older_change, aged, stands.change)
          (due_is common (is_fast common _ _ stands.pace.at) (has_heartbeat common _ _ stands.pace.at)
          (change_number takes) (number_now takes) t.number stands.pace.k
          (change_le takes stands.rises) goes_on stands.pace.passed stands.pace.ahead)

      pub same_next : (next : Schedule) →
          next.last ≡ old.last → next.change ≡ old.change → next.state ≡ old.state →
          next.sequence ≡ (if is_due common (t ∷ takes) then next_count old.sequence else old.sequence) →
          Passed common age next.pace → HasTaken common (t ∷ takes) next
      unfolding state sequence
      same_next next last change count counted passed = record {
        rises = rises;
        last = last ∙ stands.last ∙ unchanged t takes same;
        change = change ∙ stands.change ∙ sym older_change;
        state = count ∙ stands.state ∙ sym (cond-false _ _ _ same);
        sequence =
            counted ∙ ap (λ n. if is_due common (t ∷ takes) then next_count n else n) stands.sequence
            ∙ sym (cond-false _ _ _ same);
        pace = rw (older_change, ← stands.change, ← aged) passed;
      }
