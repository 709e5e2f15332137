-- A walk over the items of a list, as a loop goes.
use Rattle.std.proofs.Common.{◌≡◌, ℕ, ◌<◌, ◌≤◌, ◌+◌, List, [], ◌∷◌, ◌++◌, length, get_or, drop, Ok, Err, sym, ◌∙◌}
use Rattle.std.proofs.lemmas.List.{drop_all}
use Rattle.toml.specs.Data.{Data}
use Rattle.toml.specs.View.{view, items_view}
use Rattle.toml.specs.declared.value.Value.{Value}
use Rattle.toml.proofs.Views.{items_view-drop}
use Rattle.settings_read.specs.Walk.{Answer, Refusal, ◌>>=◌, each}

module _ {A : Type 0} (one : List A → Data → Answer A) where
  pub each_next : (done : List A) (vs : List Value) (i : ℕ) (v : Value) → i < length vs → v ≡ get_or vs i v
      → each one done (items_view (drop i vs)) ≡ (one done (view v) >>= λ x. each one (done ++ x ∷ []) (items_view (drop (i + 1) vs)))
  unfolding each
  each_next done vs i v lt is = rw (items_view-drop vs i v lt, ← is)

  pub each_stops : (done : List A) (vs : List Value) (i : ℕ) (v : Value) (r : Refusal) (total : Answer (List A)) → i < length vs → v ≡ get_or vs i v
      → Err r ≡ one done (view v) → each one done (items_view (drop i vs)) ≡ total → Err r ≡ total
  each_stops done vs i v r total lt is e so_far = sym (each_next done vs i v lt is ∙ rw (← e)) ∙ so_far

  pub each_goes : (done : List A) (vs : List Value) (i : ℕ) (v : Value) (x : A) (total : Answer (List A)) → i < length vs → v ≡ get_or vs i v
      → Ok x ≡ one done (view v) → each one done (items_view (drop i vs)) ≡ total → each one (done ++ x ∷ []) (items_view (drop (i + 1) vs)) ≡ total
  each_goes done vs i v x total lt is e so_far = sym (each_next done vs i v lt is ∙ rw (← e)) ∙ so_far

  pub each_ends : (done : List A) (vs : List Value) (i : ℕ) (total : Answer (List A)) → length vs ≤ i
      → each one done (items_view (drop i vs)) ≡ total → Ok done ≡ total
  unfolding each
  each_ends done vs i total le so_far = let none : drop i vs ≡ [] = drop_all i vs le in let e : each one done (items_view (drop i vs)) ≡ Ok done = rw none in sym e ∙ so_far
