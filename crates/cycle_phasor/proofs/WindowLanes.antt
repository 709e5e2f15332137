-- Eight sums whose window moves on.
use Rattle.std.proofs.Common.{◌≡◌, ℕ, ◌+◌, ◌-◌, ◌<◌, ◌≤◌, suc, Bool, true, false, List, [], ◌∷◌, ◌++◌, length, get_or, map, drop, replicate, ap, ◌∙◌, sym, refl, arith, ℤ, pos, ◌+ℤ◌, ◌-ℤ◌, ◌*ℤ◌, Option, None, nat_lt, if◌then◌else◌, slice_get, length-append}
use borrow.Author.Tests.{ltb-true, ltb-false}
use Rattle.std.proofs.lemmas.Simd.{get_or-zip2, length-zip2, get_or-replicate, length-replicate}
use Rattle.std.proofs.lemmas.List.{length-map, get_or-map, map-append}
use Rattle.relay_num.specs.WeightedSums.{weighted_sum, lane}
use Rattle.relay_num.proofs.Signed.{signed}
use Rattle.relay_num.proofs.WeightedSumLaws.{weighted_sum-push, weighted_sum-slide}
use Rattle.circular_buffer.specs.Buffer.{keep_last}
use Rattle.lanes.specs.Lanes.{differences, multiples}
use Rattle.cycle_phasor.specs.Sliding.{slid, values_left, AreSumsOf}

-- one lane of the sums after a slide
pub lane-slid : (totals : List ℤ) (weight : ℤ) (new left : List ℤ) (k : ℕ) → length totals ≡ 8 → length new ≡ 8 → length left ≡ 8 → k < 8
    → lane k (slid totals weight new left) ≡ lane k totals +ℤ (lane k new -ℤ lane k left) *ℤ weight
lane-slid totals weight new left k a b c lt =
    let long = length-zip2 (λ x y. x -ℤ y) new left (omega arith) in
    let longer : length (multiples (differences new left) weight) ≡ 8 = length-map (differences new left) (λ x. x *ℤ weight) ∙ omega arith in
    get_or-zip2 (λ x y. x +ℤ y) totals (multiples (differences new left) weight) k (pos 0) (pos 0) (pos 0) (omega arith) (omega arith)
    ∙ ap (λ t. lane k totals +ℤ t) (get_or-map (λ x. x *ℤ weight) (differences new left) k (pos 0) (pos 0) (omega arith))
    ∙ ap (λ t. lane k totals +ℤ t *ℤ weight) (get_or-zip2 (λ x y. x -ℤ y) new left k (pos 0) (pos 0) (pos 0) (omega arith) (omega arith))

-- the window is full: its oldest values leave it
pub AreSumsOf-slide : (weight : ℕ → ℤ) (n first : ℕ) (totals v : List ℤ) (vs : List (List ℤ)) (w : List ℤ) → ((j : ℕ) → weight (j + n) ≡ weight j)
    → length totals ≡ 8 → length w ≡ 8 → length v ≡ 8 → length (v ∷ vs) ≡ n
    → AreSumsOf totals weight first (v ∷ vs) → AreSumsOf (slid totals (weight (first + n)) w v) weight (first + 1) (vs ++ w ∷ [])
AreSumsOf-slide weight n first totals v vs w repeats a b c full h = record {
  lanes = λ k lt.
      let long : length (lane k v ∷ map (lane k) vs) ≡ n = ap suc (length-map vs (lane k)) ∙ full in
      lane-slid totals (weight (first + n)) w v k a b c lt
      ∙ ap (λ t. t +ℤ (lane k w -ℤ lane k v) *ℤ weight (first + n)) (h.lanes k lt)
      ∙ sym (weighted_sum-slide weight n first (lane k v) (map (lane k) vs) (lane k w) repeats long)
      ∙ ap (weighted_sum weight (first + 1)) (sym (map-append (lane k) vs (w ∷ [])));
}

same_less_zero : (x : ℤ) → x -ℤ pos 0 ≡ x
same_less_zero x = omega (arith, signed)

minus_zero : (t x w : ℤ) → t +ℤ (x -ℤ pos 0) *ℤ w ≡ t +ℤ x *ℤ w
minus_zero t x w = ap (λ z. t +ℤ z *ℤ w) (same_less_zero x)

-- the window fills
pub AreSumsOf-fill : (weight : ℕ → ℤ) (first : ℕ) (totals : List ℤ) (vs : List (List ℤ)) (w : List ℤ) → length totals ≡ 8 → length w ≡ 8
    → AreSumsOf totals weight first vs → AreSumsOf (slid totals (weight (first + length vs)) w (values_left None)) weight first (vs ++ w ∷ [])
AreSumsOf-fill weight first totals vs w a b h = record {
  lanes = λ k lt.
      lane-slid totals (weight (first + length vs)) w (replicate 8 (pos 0)) k a b (length-replicate 8 (pos 0)) lt
      ∙ ap (λ z. lane k totals +ℤ (lane k w -ℤ z) *ℤ weight (first + length vs)) (get_or-replicate 8 k (pos 0) (pos 0) lt)
      ∙ minus_zero (lane k totals) (lane k w) (weight (first + length vs))
      ∙ ap (λ t. t +ℤ lane k w *ℤ weight (first + length vs)) (h.lanes k lt)
      ∙ ap (λ m. weighted_sum weight first (map (lane k) vs) +ℤ lane k w *ℤ weight (first + m)) (sym (length-map vs (lane k)))
      ∙ sym (weighted_sum-push weight first (map (lane k) vs) (lane k w))
      ∙ ap (weighted_sum weight first) (sym (map-append (lane k) vs (w ∷ [])));
}

-- what `History::push` gives back of a history of n items
abbrev pub given_up : {X : Type 0} → ℕ → List X → Option X
given_up n xs = if nat_lt (length xs) n then None else slice_get xs 0

abbrev pub all_eight : List (List ℤ) → Type 0
all_eight vs = (i : ℕ) (d : List ℤ) → i < length vs → length (get_or vs i d) ≡ 8

push_by : (weight : ℕ → ℤ) (n first : ℕ) (totals : List ℤ) (vs : List (List ℤ)) (w : List ℤ) → ((j : ℕ) → weight (j + n) ≡ weight j) → 0 < n
    → length vs ≤ n → length totals ≡ 8 → length w ≡ 8 → all_eight vs → AreSumsOf totals weight first vs
    → (b : Bool) → nat_lt (length vs) n ≡ b
    → AreSumsOf (slid totals (weight (first + length vs)) w (values_left (if b then None else slice_get vs 0))) weight (first + 1 + length vs - length (keep_last n (vs ++ w ∷ []))) (keep_last n (vs ++ w ∷ []))
push_by weight n first totals vs w repeats some few a c eight h true e =
    let long : length (vs ++ w ∷ []) ≡ length vs + 1 = length-append vs (w ∷ []) in
    let none : length (vs ++ w ∷ []) - n ≡ 0 = omega (arith, ltb-true _ _ e) in
    let same : keep_last n (vs ++ w ∷ []) ≡ vs ++ w ∷ [] = ap (λ k. drop k (vs ++ w ∷ [])) none in
    let at : first + 1 + length vs - length (vs ++ w ∷ []) ≡ first = omega arith in
    rw (same, at) (AreSumsOf-fill weight first totals vs w a c h)
push_by weight n first totals [] w repeats some few a c eight h false e = absurd (omega (arith, ltb-false _ _ e))
push_by weight n first totals (v ∷ vs) w repeats some few a c eight h false e =
    let full : length (v ∷ vs) ≡ n = omega (arith, ltb-false _ _ e) in
    let long : length (vs ++ w ∷ []) ≡ length vs + 1 = length-append vs (w ∷ []) in
    let one : length (v ∷ vs ++ w ∷ []) - n ≡ 1 = omega arith in
    let same : keep_last n (v ∷ vs ++ w ∷ []) ≡ vs ++ w ∷ [] = ap (λ k. drop k (v ∷ vs ++ w ∷ [])) one in
    let at : first + 1 + length (v ∷ vs) - length (vs ++ w ∷ []) ≡ first + 1 = omega arith in
    rw (same, at, full) (AreSumsOf-slide weight n first totals v vs w repeats a c (eight 0 v (omega arith)) full h)

-- The law as a caller of `History::push` and `Slider::slide` meets it, full or not.
pub AreSumsOf-push : (weight : ℕ → ℤ) (n first : ℕ) (totals : List ℤ) (vs : List (List ℤ)) (w : List ℤ) → ((j : ℕ) → weight (j + n) ≡ weight j) → 0 < n
    → length vs ≤ n → length totals ≡ 8 → length w ≡ 8 → all_eight vs → AreSumsOf totals weight first vs
    → AreSumsOf (slid totals (weight (first + length vs)) w (values_left (given_up n vs))) weight (first + 1 + length vs - length (keep_last n (vs ++ w ∷ []))) (keep_last n (vs ++ w ∷ []))
AreSumsOf-push weight n first totals vs w repeats some few a c eight h = push_by weight n first totals vs w repeats some few a c eight h (nat_lt (length vs) n) refl
