-- The numbers of older takes, and the run of dead takes after one more.
use Rattle.std.proofs.Common.{◌≡◌, ℕ, zero, suc, ◌+◌, ◌<◌, ◌≤◌, Bool, true, false, cond, refl, arith, List, [], ◌∷◌, length, drop, inl, inr, one-add}
use Rattle.std.proofs.lemmas.Bool.{cases_eq, eq-eqb}
use Rattle.std.specs.Prelude.{◌==◌}
use Rattle.sample_windows.specs.Numbered.{newest_number, Rises, run_of}
use Rattle.sample_windows.proofs.NumberedLemmas.{Rises-older}
use Rattle.trip_logic.specs.Takes.{TripTake, number_of, dead_now, Follows}

pub rises_next : (t : TripTake) (takes : List TripTake) → Rises number_of takes → Follows t takes → Rises number_of (t ∷ takes)
rises_next t [] r f = tt
rises_next t (u ∷ older) r f = (f.0, r)

-- an older take has a lower number
pub number_le_newest : (takes : List TripTake) (k : ℕ) → Rises number_of takes → k < length takes →
    newest_number number_of (drop k takes) ≤ newest_number number_of takes
number_le_newest [] k r h = absurd (omega arith)
number_le_newest (t ∷ older) zero r h = omega arith
number_le_newest (t ∷ []) (suc k) r h = absurd (omega arith)
number_le_newest (t ∷ u ∷ older) (suc k) r h = omega (arith, number_le_newest (u ∷ older) k r.1 (omega arith), r.0)

pub number_le : (takes : List TripTake) (i k : ℕ) → Rises number_of takes → i ≤ k → k < length takes →
    newest_number number_of (drop k takes) ≤ newest_number number_of (drop i takes)
number_le takes zero k r l h = number_le_newest takes k r h
number_le takes (suc i) zero r l h = absurd (omega arith)
number_le [] (suc i) (suc k) r l h = absurd (omega arith)
number_le (t ∷ older) (suc i) (suc k) r l h = number_le older i k (Rises-older number_of t older r) (omega arith) (omega arith)

-- a dead take follows at once, so it makes the run one longer
pub run_next : (t : TripTake) (takes : List TripTake) → Follows t takes →
    run_of number_of dead_now (t ∷ takes) ≡ cond t.dead (1 + run_of number_of dead_now takes) 0
unfolding run_of
run_next t [] f = one t.dead (t.number == 1)
  where
    one : (f b : Bool) → ◌≡◌ {A = ℕ} (cond f (cond b 1 1) 0) (cond f 1 0)
    one true true = refl
    one true false = refl
    one false b = refl
run_next t (u ∷ older) f = elim (cases_eq t.number (u.number + 1)) [
  | inl next ↦ rw (eq-eqb t.number (u.number + 1) next) (simp one-add)
  | inr gap ↦ rw (f.1 gap) refl
]
