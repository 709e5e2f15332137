-- What holds of the answer of a chain of tests, by what holds of its last.
use Rattle.std.proofs.Common.{◌≡◌, ℕ, Bool, true, false, List, [], ◌∷◌, ◌++◌, Option, Some, None, Ok, Err, refl, subst}
use Rattle.std.specs.Prelude.{IfOk}
use Rattle.toml.specs.Data.{Data, Items, no_items, item}
use Rattle.settings_read.specs.Walk.{Answer, ◌>>=◌, holds, there, each}

pub then_ok : {A B : Type 0} (m : Answer A) (f : A → Answer B) (P : B → Type 0) → ((x : A) → m ≡ Ok x → IfOk (f x) P) → IfOk (m >>= f) P
then_ok (Ok x) f P h = h x refl
then_ok (Err e) f P h = tt

pub at_ok : {A : Type 0} (P : A → Type 0) (m : Answer A) (x : A) → IfOk m P → m ≡ Ok x → P x
at_ok P m x h is = subst (λ a. IfOk a P) is h

pub still_ok : {A : Type 0} (P Q : A → Type 0) (m : Answer A) → ((x : A) → P x → Q x) → IfOk m P → IfOk m Q
still_ok P Q (Ok x) more h = more x h
still_ok P Q (Err e) more h = tt

pub held : (test : Bool) (number : ℕ) (key : List ℕ) (u : Unit {0}) → holds test number key ≡ Ok u → test ≡ true
held true number key u is = refl
held false number key u is = let no : ⊥ = cc in absurd no

pub was_there : {A : Type 0} (o : Option A) (number : ℕ) (key : List ℕ) (x : A) → there o number key ≡ Ok x → o ≡ Some x
was_there (Some y) number key x is = cc
was_there None number key x is = let no : ⊥ = cc in absurd no

pub each_ok : {A : Type 0} (one : List A → Data → Answer A) (P : List A → Type 0)
    → ((done : List A) (d : Data) → P done → IfOk (one done d) (λ x. P (done ++ x ∷ [])))
    → (done : List A) (items : Items) → P done → IfOk (each one done items) P
unfolding each
each_ok one P step done no_items good = good
each_ok one P step done (item d ds) good =
    then_ok (one done d) (λ x. each one (done ++ x ∷ []) ds) P
    (λ x is. each_ok one P step (done ++ x ∷ []) ds (at_ok (λ y. P (done ++ y ∷ [])) (one done d) x (step done d good) is))
