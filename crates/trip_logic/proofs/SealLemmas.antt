-- The trip stands exactly where the trip of the newest take that operates hasn't ended.
use Rattle.std.proofs.Common.{◌≡◌, ℕ, zero, suc, ◌+◌, ◌<◌, ◌≤◌, Bool, true, false, not, ◌&&◌, refl, ap, ◌∙◌, arith, List, [], ◌∷◌, length, drop, inl, inr, one-add, leb-true, le-leb}
use Rattle.std.proofs.lemmas.Bool.{cases_Bool, cases_lt, and_parts, and_from, and_right, and_left, not_from_false, not_from_true}
use Rattle.std.specs.Prelude.{find, option_map, Some, None}
use Rattle.sample_windows.specs.Numbered.{newest_number, Rises}
use Rattle.sample_windows.proofs.BelowLemmas.{any_below_from, any_below_found, any_below_none}
use Rattle.trip_logic.specs.Seal.{ends, has_ended, stands}
use Rattle.trip_logic.specs.Takes.{TripTake, number_of, operates_now, dead_now, is_on}
use Rattle.trip_logic.specs.KeptTrip.{last_place}
use Rattle.trip_logic.proofs.OlderLemmas.{number_le}

abbrev pub over : ℕ → ℕ → ℕ → List TripTake → Bool
over least open_run place takes = has_ended number_of operates_now dead_now least open_run place takes

-- no take before the last place operates, and the one there does
before_last : (takes : List TripTake) (j : ℕ) → j < last_place takes → operates_now (drop j takes) ≡ false
before_last [] j h = absurd (omega arith)
before_last (t ∷ older) zero h = elim (cases_Bool t.operated) [
  | inl e ↦ (let none : zero < zero = rw e at h in absurd (omega arith))
  | inr e ↦ e
]
before_last (t ∷ older) (suc j) h = elim (cases_Bool t.operated) [
  | inl e ↦ (let none : suc j < zero = rw e at h in absurd (omega arith))
  | inr e ↦ (let more : suc j < 1 + last_place older = rw e at h in before_last older j (omega arith))
]

at_last : (takes : List TripTake) → last_place takes < length takes → operates_now (drop (last_place takes) takes) ≡ true
at_last [] h = absurd (omega arith)
at_last (t ∷ older) h = elim (cases_Bool t.operated) [
  | inl e ↦ (let here : drop (last_place (t ∷ older)) (t ∷ older) ≡ t ∷ older = rw e refl in ap operates_now here ∙ e)
  | inr e ↦ (let more : 1 + last_place older < suc (length older) = rw e at h in rw (e, one-add) (at_last older (omega arith)))
]

-- a take that ends a later trip ends an earlier one
ends_earlier : (least open_run m n : ℕ) (takes : List TripTake) → m ≤ n →
    ends number_of operates_now dead_now least open_run n takes ≡ true → ends number_of operates_now dead_now least open_run m takes ≡ true
ends_earlier least open_run m n takes h e =
    let parts = and_parts _ _ e in
    and_from _ _ (le-leb (m + least) (newest_number number_of takes) (omega (arith, leb-true (n + least) (newest_number number_of takes) parts.0))) parts.1

pub is_on_none : (least open_run : ℕ) (takes : List TripTake) → length takes ≤ last_place takes → is_on least open_run takes ≡ false
unfolding stands
is_on_none least open_run takes h =
    any_below_none (length takes) (λ place. operates_now (drop place takes) && not (over least open_run place takes))
    (λ k l. and_left _ _ (before_last takes k (omega arith)))

pub is_on_is : (least open_run : ℕ) (takes : List TripTake) → Rises number_of takes → last_place takes < length takes →
    is_on least open_run takes ≡ not (over least open_run (last_place takes) takes)
unfolding stands
is_on_is least open_run takes r h = elim (cases_Bool (over least open_run (last_place takes) takes)) [
  | inl ended ↦ rw ended (any_below_none (length takes) (λ place. operates_now (drop place takes) && not (over least open_run place takes)) (older_over ended))
  | inr stays ↦ rw stays (any_below_from (length takes) (λ place. operates_now (drop place takes) && not (over least open_run place takes)) (last_place takes) h
      (and_from _ _ (at_last takes h) (not_from_false _ stays)))
]
  where
    older_over : over least open_run (last_place takes) takes ≡ true →
        (k : ℕ) → k < length takes → (operates_now (drop k takes) && not (over least open_run k takes)) ≡ false
    older_over ended k l = elim (cases_lt k (last_place takes)) [
      | inl b ↦ and_left _ _ (before_last takes k b)
      | inr o ↦ (let found = any_below_found (last_place takes)
          (λ later. ends number_of operates_now dead_now least open_run (newest_number number_of (drop (last_place takes) takes)) (drop later takes)) ended in
          and_right _ _ (not_from_true _ (any_below_from k
          (λ later. ends number_of operates_now dead_now least open_run (newest_number number_of (drop k takes)) (drop later takes)) found.0 (omega (arith, found.1))
          (ends_earlier least open_run _ _ (drop found.0 takes) (number_le takes (last_place takes) k r o l) found.2))))
    ]

-- the number of the newest take that operates
pub last_found : (takes : List TripTake) → last_place takes < length takes →
    option_map number_of (find (λ t. t.operated) takes) ≡ Some (newest_number number_of (drop (last_place takes) takes))
last_found [] h = absurd (omega arith)
last_found (t ∷ older) h = elim (cases_Bool t.operated) [
  | inl e ↦ rw e refl
  | inr e ↦ (let more : 1 + last_place older < suc (length older) = rw e at h in rw (e, one-add) (last_found older (omega arith)))
]

pub none_found : (takes : List TripTake) → length takes ≤ last_place takes → option_map number_of (find (λ t. t.operated) takes) ≡ None
none_found [] h = refl
none_found (t ∷ older) h = elim (cases_Bool t.operated) [
  | inl e ↦ (let none : suc (length older) ≤ 0 = rw e at h in absurd (omega arith))
  | inr e ↦ (let more : suc (length older) ≤ 1 + last_place older = rw e at h in rw e (none_found older (omega arith)))
]
