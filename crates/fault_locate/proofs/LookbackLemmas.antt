-- The newest items of a list, as a ring keeps them.
use Rattle.std.proofs.Common.{◌≡◌, ℕ, zero, suc, ◌+◌, ◌-◌, ◌<◌, min, sym, ap, ◌∙◌, arith, List, [], ◌∷◌, ◌++◌, length, get_or, take, drop, reverse, inl, inr}
use Rattle.std.specs.Prelude.{Option, None, slice_get, nat_lt, if◌then◌else◌, All}
use Rattle.std.proofs.lemmas.Bool.{cases_lt, le-leb, lt-leb, cond-true, cond-false}
use Rattle.std.proofs.lemmas.List.{take-append-drop, reverse-append, length-reverse, length-drop, length-take, take-take, take_more}
use Rattle.std.proofs.lemmas.List.Elements.{All-append, All-drop}
use Rattle.std.proofs.lemmas.Option.{slice_get-get_or, slice_get_past}
use Rattle.std.proofs.Math.Seq.{drop-append_seam}
use Rattle.circular_buffer.specs.Buffer.{Buffer, buffer, keep_last}

module _ {X : Type 0} where
  -- the last of a list turned round are its first ones turned round
  keep_last-reverse : (n : ℕ) (xs : List X) → keep_last n (reverse xs) ≡ reverse (take n xs)
  keep_last-reverse n xs =
      let parts : reverse xs ≡ reverse (drop n xs) ++ reverse (take n xs) = ap reverse (sym (take-append-drop n xs)) ∙ reverse-append (take n xs) (drop n xs) in
      let before : length (reverse xs) - n ≡ length (reverse (drop n xs)) = omega (arith, length-reverse xs, length-reverse (drop n xs), length-drop n xs) in
      ap (λ k. drop k (reverse xs)) before ∙ ap (drop (length (reverse (drop n xs)))) parts ∙ drop-append_seam (reverse (drop n xs)) (reverse (take n xs))

  newest_pushed : (n : ℕ) (x : X) (xs : List X) → keep_last (suc n) (reverse (take (suc n) xs) ++ x ∷ []) ≡ reverse (take (suc n) (x ∷ xs))
  newest_pushed n x xs =
      ap (keep_last (suc n)) (sym (reverse-append (x ∷ []) (take (suc n) xs)))
      ∙ keep_last-reverse (suc n) (x ∷ take (suc n) xs) ∙ ap (λ ys. reverse (x ∷ ys)) (take-take n (suc n) xs (omega arith))

  -- what a push leaves
  pub pushed : (m : ℕ) (x : X) (xs : List X) (old new : Buffer X) → 0 < m → old ≡ buffer (reverse (take m xs)) m →
      new ≡ buffer (keep_last old.capacity (old.items ++ x ∷ [])) old.capacity → new ≡ buffer (reverse (take m (x ∷ xs))) m
  pushed zero x xs old new some is push = absurd (omega arith)
  pushed (suc n) x xs old new some is push =
      push ∙ ap (λ b. buffer (keep_last b.capacity (b.items ++ x ∷ [])) b.capacity) is ∙ ap (λ items. buffer items (suc n)) (newest_pushed n x xs)

  oldest_is : (n : ℕ) (xs : List X) (d : X) →
      (if nat_lt (length (reverse (take (suc n) xs))) (suc n) then None else slice_get (reverse (take (suc n) xs)) 0) ≡ slice_get xs n
  oldest_is n xs d =
      let long : length (reverse (take (suc n) xs)) ≡ min (suc n) (length xs) = length-reverse (take (suc n) xs) ∙ length-take (suc n) xs in
      elim (cases_lt n (length xs)) [
        | inl l ↦
            (let e : n + 1 ≡ suc n = omega arith in
            let first : reverse (take (suc n) xs) ≡ get_or xs n d ∷ reverse (take n xs) =
            ap (λ k. reverse (take k xs)) (sym e) ∙ ap reverse (take_more xs n d l) ∙ reverse-append (take n xs) (get_or xs n d ∷ []) in
            cond-false _ _ _ (lt-leb (suc (length (reverse (take (suc n) xs)))) (suc n) (omega (arith, long, l))) ∙ ap (λ items. slice_get items 0) first
            ∙ sym (slice_get-get_or xs n d l))
        | inr g ↦ cond-true _ _ _ (le-leb (suc (length (reverse (take (suc n) xs)))) (suc n) (omega (arith, long, g))) ∙ sym (slice_get_past xs n g)
      ]

  -- what it answers is the item that many places back
  pub oldest : (m : ℕ) (x : X) (xs : List X) (d : X) (old : Buffer X) (left : Option X) → 0 < m → old ≡ buffer (reverse (take m xs)) m →
      left ≡ (if nat_lt (length old.items) old.capacity then None else slice_get old.items 0) → left ≡ slice_get (x ∷ xs) m
  oldest zero x xs d old left some is push = absurd (omega arith)
  oldest (suc n) x xs d old left some is push =
      push ∙ ap (λ b. if nat_lt (length b.items) b.capacity then None else slice_get b.items 0) is ∙ oldest_is n xs d

  -- each item that a ring keeps after one more is one of those
  pub all_pushed : (P : X → Type 0) (n : ℕ) (items : List X) (x : X) → All P items → P x → All P (keep_last n (items ++ x ∷ []))
  all_pushed P n items x all h = All-drop P (length (items ++ x ∷ []) - n) (items ++ x ∷ []) (All-append P items (x ∷ []) all one)
    where
      one : All P (x ∷ [])
      one zero d l = h
      one (suc i) d l = absurd (omega arith)
