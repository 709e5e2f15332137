-- A window of the last takes against the run that ends at the newest.
use Rattle.std.proofs.Common.{◌≡◌, ℕ, zero, suc, ◌≤◌, min, Bool, leb, one-add, refl, sym, ◌∙◌, arith, List, [], ◌∷◌, length, inl, inr}
use Rattle.std.specs.List.{prefix_len}
use Rattle.std.proofs.lemmas.Bool.{cases_Bool, and_from, and_left, and_right, le-leb, lt-leb}
use Rattle.std.proofs.lemmas.Bool.Decides.{nat_tests}
use Rattle.sample_windows.proofs.BelowLemmas.{leb-suc-suc}
use Rattle.std.proofs.Common.{◌++◌, ◌<◌, ◌+◌, ap, take, drop, reverse, get_or}
use Rattle.std.proofs.lemmas.List.{take_more, drop_more, reverse-append}
use Rattle.sample_windows.specs.Windows.{at_each, each_of_last, in_order}

-- the last k takes pass exactly where the run is at least k long
pub each_of_last-run : {X : Type 0} (k : ℕ) (test : X → Bool) (takes : List X) → each_of_last k test takes ≡ leb k (prefix_len test takes)
unfolding each_of_last
each_of_last-run zero test takes = and_from _ _ (le-leb 0 (length takes) (omega arith)) refl ∙ sym (le-leb 0 (prefix_len test takes) (omega arith))
each_of_last-run (suc k) test [] = and_left _ _ (lt-leb (suc k) 0 (omega arith)) ∙ sym (lt-leb (suc k) 0 (omega arith))
each_of_last-run (suc k) test (x ∷ older) = elim (cases_Bool (test x)) [
  | inl e ↦ rw (e, one-add) (rw (leb-suc-suc k (length older), leb-suc-suc k (prefix_len test older)) (each_of_last-run k test older))
  | inr e ↦ rw e (and_right _ _ refl ∙ sym (lt-leb (suc k) 0 (omega arith)))
]

-- a count up to m tells of each window up to m
pub leb_min : (k n m : ℕ) → k ≤ m → leb k (min n m) ≡ leb k n
leb_min k n m h = grind (arith, nat_tests)

-- a loop over takes in their order: what is past, the newest first, after one more
pub past_next : {X : Type 0} (takes past : List X) (i : ℕ) (d : X) → i < length takes →
    reverse (take (i + 1) takes) ++ past ≡ get_or takes i d ∷ (reverse (take i takes) ++ past)
past_next takes past i d h =
    ap (λ s. reverse s ++ past) (take_more takes i d h) ∙ ap (λ s. s ++ past) (reverse-append (take i takes) (get_or takes i d ∷ []))

-- and what is told of it
pub in_order_next : {X : Type 0} {Y : Type 0} (told : List X → List Y) (takes past : List X) (i : ℕ) (d : X) → i < length takes →
    in_order told (reverse (take i takes) ++ past) (drop i takes)
    ≡ told (get_or takes i d ∷ (reverse (take i takes) ++ past)) ++ in_order told (reverse (take (i + 1) takes) ++ past) (drop (i + 1) takes)
in_order_next told takes past i d h = rw (past_next takes past i d h) (ap (in_order told (reverse (take i takes) ++ past)) (drop_more takes i d h))

-- a fact at each take, after some
pub drop-at_each : {X : Type 0} {Y : Type 0} (fact : List X → Y) (i : ℕ) (takes : List X) → drop i (at_each fact takes) ≡ at_each fact (drop i takes)
unfolding at_each
drop-at_each fact zero takes = refl
drop-at_each fact (suc i) [] = refl
drop-at_each fact (suc i) (x ∷ older) = drop-at_each fact i older

pub length-at_each : {X : Type 0} {Y : Type 0} (fact : List X → Y) (takes : List X) → length (at_each fact takes) ≡ length takes
unfolding at_each
length-at_each fact [] = refl
length-at_each fact (x ∷ older) = ap suc (length-at_each fact older)
