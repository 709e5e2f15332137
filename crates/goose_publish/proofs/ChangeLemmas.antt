-- The last change: the number that the definition finds is the greatest of a change.
use Rattle.std.proofs.Common.{◌≡◌, ℕ, zero, suc, ◌≤◌, drop, true, false, refl, sym, ◌∙◌, arith, le_refl, inl, inr, List, [], ◌∷◌}
use Rattle.std.proofs.lemmas.Bool.{cases_Bool, cond-true, cond-false, false≢true}
use Rattle.sample_windows.specs.Numbered.{Rises}
use Rattle.sample_windows.specs.Windows.{newest_where}
use Rattle.goose_publish.specs.Publishing.{PointsTake, RisesTo, number_now, changes_now, change_number}
use Rattle.goose_publish.specs.Laws.{IsNewestChange}

-- the numbers further back are no greater
number_below : (j : ℕ) (takes : List PointsTake) → Rises (λ t. t.number) takes →
    number_now (drop j takes) ≤ number_now takes
number_below zero takes r = le_refl (number_now takes)
number_below (suc j) [] r = le_refl 0
number_below (suc j) (t ∷ []) r = omega (arith, number_below j [] tt)
number_below (suc j) (t ∷ u ∷ older) r = omega (arith, number_below j (u ∷ older) r.1, r.0)

pub change_is_newest : (t : PointsTake) (older : List PointsTake) → RisesTo t older →
    IsNewestChange (t ∷ older) (change_number (t ∷ older))
unfolding newest_where
change_is_newest t [] r = record { back = 0; changes = refl; is = refl; none_above = λ j h. number_below j (t ∷ []) r }
change_is_newest t (u ∷ older) r = elim (cases_Bool (changes_now (t ∷ u ∷ older))) [
  | inl e ↦
      rw (cond-true _ _ _ e)
      (record { back = 0; changes = e; is = refl; none_above = λ j h. number_below j (t ∷ u ∷ older) r })
  | inr e ↦
      (let before = change_is_newest u older r.1 in
      rw (cond-false _ _ _ e) (record {
        back = suc before.back;
        changes = before.changes;
        is = before.is;
        none_above = λ j h. at_each e before.none_above j h;
      }))
]
  where
    at_each : changes_now (t ∷ u ∷ older) ≡ false →
        ((j : ℕ) → changes_now (drop j (u ∷ older)) ≡ true →
        number_now (drop j (u ∷ older)) ≤ change_number (u ∷ older)) →
        (j : ℕ) → changes_now (drop j (t ∷ u ∷ older)) ≡ true →
        number_now (drop j (t ∷ u ∷ older)) ≤ change_number (u ∷ older)
    at_each e none zero h = absurd (false≢true (sym e ∙ h))
    at_each e none (suc j) h = none j h
