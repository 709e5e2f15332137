-- Where a field ends.
use Rattle.std.proofs.Common.{◌≡◌, ◌≢◌, ℕ, zero, suc, ◌<◌, List, [], ◌∷◌, ◌++◌, length, get_or, take, drop, refl, ap, ◌∙◌, sym, arith, length-append}
use Rattle.std.proofs.Common.{Option, Some, None, Bor, IfSome, IsSomeAnd, MatchOption}
use Rattle.std.proofs.lemmas.List.Prefix.{front_rest}
use Rattle.std.specs.List.{AllByRecursion}

-- the first place of the byte that ends the field
pub first_at : (end : ℕ) (bytes rest : List ℕ) (i : ℕ) → AllByRecursion (λ b. b ≢ end) bytes → get_or (bytes ++ end ∷ rest) i 0 ≡ end
    → ((k : ℕ) → k < i → get_or (bytes ++ end ∷ rest) k 0 ≡ end → ⊥) → i ≡ length bytes
first_at end [] rest zero free at before = refl
first_at end [] rest (suc i) free at before = absurd (before 0 (omega arith) refl)
first_at end (b ∷ bytes) rest zero free at before = absurd (free.0 at)
first_at end (b ∷ bytes) rest (suc i) free at before = ap suc (first_at end bytes rest i free.1 at (λ k lt e. before (suc k) (omega arith) e))

pub end_at : (end : ℕ) (bytes rest : List ℕ) → get_or (bytes ++ end ∷ rest) (length bytes) 0 ≡ end
end_at end [] rest = refl
end_at end (b ∷ bytes) rest = end_at end bytes rest

drop_past : (end : ℕ) (bytes rest : List ℕ) → drop (suc (length bytes)) (bytes ++ end ∷ rest) ≡ rest
drop_past end [] rest = refl
drop_past end (b ∷ bytes) rest = drop_past end bytes rest

take_front : (bytes more : List ℕ) → take (length bytes) (bytes ++ more) ≡ bytes
take_front [] more = refl
take_front (b ∷ bytes) more = ap (λ r. b ∷ r) (take_front bytes more)

-- what stands before that place and behind it
pub parts_at : (text : List ℕ) (end : ℕ) (bytes rest : List ℕ) (i : ℕ) → AllByRecursion (λ b. b ≢ end) bytes → text ≡ bytes ++ end ∷ rest → get_or text i 0 ≡ end
    → ((k : ℕ) → k < i → get_or text k 0 ≡ end → ⊥) → (take i text ≡ bytes) × (drop (suc i) text ≡ rest)
parts_at text end bytes rest i free is at before =
    let place : i ≡ length bytes = first_at end bytes rest i free (rw is at at) (rw is at before) in
    (rw (is, place) (take_front bytes (end ∷ rest)), rw (is, place) (drop_past end bytes rest))

-- a text has no such place where it isn't found
pub no_end : (text : List ℕ) (end : ℕ) (bytes rest : List ℕ) → text ≡ bytes ++ end ∷ rest → ((k : ℕ) → k < length text → get_or text k 0 ≡ end → ⊥) → ⊥
no_end text end bytes rest is never =
    never (length bytes) (rw is (omega (arith, length-append bytes (end ∷ rest)))) (rw is (end_at end bytes rest))

-- where a text begins with a word
pub stripped : (s p : List ℕ) (r : Option (Bor (List ℕ))) → MatchOption r ((rest : List ℕ) → s ≢ p ++ rest) (λ x. s ≡ p ++ x.now) → IfSome r (λ left. s ≡ p ++ left.now)
stripped s p None h = tt
stripped s p (Some x) h = h

pub stripped-each : (s p : List ℕ) (r : Option (Bor (List ℕ))) → MatchOption r ((rest : List ℕ) → s ≢ p ++ rest) (λ x. s ≡ p ++ x.now)
    → (rest : List ℕ) → s ≡ p ++ rest → IsSomeAnd r (λ left. left.now ≡ rest)
stripped-each s p None h rest e = h rest e
stripped-each s p (Some x) h rest e = sym (front_rest s p x.now h) ∙ front_rest s p rest e

pub free_front : (end : ℕ) (text : List ℕ) (i : ℕ) → ((k : ℕ) → k < i → get_or text k 0 ≡ end → ⊥) → AllByRecursion (λ b. b ≢ end) (take i text)
free_front end text zero before = tt
free_front end [] (suc i) before = tt
free_front end (b ∷ text) (suc i) before = (before 0 (omega arith), free_front end text i (λ k lt e. before (suc k) (omega arith) e))
