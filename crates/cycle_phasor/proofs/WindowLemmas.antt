-- The sums of a window of small samples are small.
use Rattle.std.proofs.Common.{◌≡◌, ℕ, ◌+◌, ◌-◌, ◌<◌, ◌≤◌, ◌^◌, List, [], ◌-ℤ◌, ◌+ℤ◌, ◌*ℤ◌, Bool, true, false, None, nat_lt, if◌then◌else◌, slice_get, replicate, ◌∷◌, ◌++◌, min, length-append, length-drop, refl, length, map, ◌∙◌, arith, ℤ, pos, unsigned_abs, All}
use Rattle.std.proofs.lemmas.List.{length-map, get_or-map, get_or_default}
use Rattle.relay_num.specs.WeightedSums.{weighted_sum, lane, real_weight, imaginary_weight}
use Rattle.relay_num.proofs.WeightedSumLaws.{weighted_sum_size}
use Rattle.relay_num.specs.Bounds.{AllBelow}
use Rattle.lanes.specs.Lanes.{sums, differences, multiples}
use Rattle.std.proofs.lemmas.Simd.{length-zip2, get_or-replicate}
use borrow.Author.Tests.{ltb-false}
use Rattle.cycle_phasor.specs.Sliding.{AreSumsOf, slid, values_left}
use Rattle.cycle_phasor.specs.declared.Slider.{Slider}
use Rattle.cycle_phasor.proofs.WindowLanes.{AreSumsOf-push, given_up}
use Rattle.circular_buffer.specs.Buffer.{buffer, keep_last}
use Rattle.std.proofs.lemmas.List.Elements.{All-drop, All-push, All-nil}
use Rattle.cycle_phasor.specs.Window.{IsSample, IsSliding}

sum_below : (weight : ℕ → ℤ) (first k : ℕ) (vs : List (List ℤ)) → ((j : ℕ) → unsigned_abs (weight j) < 16385) → length vs ≤ 96 → All IsSample vs → k < 8 → unsigned_abs (weighted_sum weight first (map (lane k) vs)) < 2 ^ 49
sum_below weight first k vs small few h lt =
    let long = length-map vs (lane k) in
    let size = weighted_sum_size weight 16385 (2 ^ 28) small first (map (lane k) vs)
    (λ i d at.
    let here : i < length vs = omega arith in
    let sample = h i [] here in
    rw (get_or-map (lane k) vs i [] d here) (sample.small k (pos 0) (omega (arith, sample.eight)))) in
    omega (arith, size)

pub totals_below : (totals : List ℤ) (weight : ℕ → ℤ) (first : ℕ) (vs : List (List ℤ)) → ((j : ℕ) → unsigned_abs (weight j) < 16385) → length vs ≤ 96 → All IsSample vs → length totals ≡ 8 → AreSumsOf totals weight first vs → AllBelow totals (2 ^ 49)
totals_below totals weight first vs small few h eight sums k d lt =
    let at : k < 8 = omega arith in
    rw (get_or_default totals k d (pos 0) lt) (rw (sums.lanes k at) (sum_below weight first k vs small few h at))

pub length-keep_last : (n : ℕ) (vs : List (List ℤ)) (w : List ℤ) → length (keep_last n (vs ++ w ∷ [])) ≡ min (length vs + 1) n
length-keep_last n vs w = omega (arith, length-drop (length (vs ++ w ∷ []) - n) (vs ++ w ∷ []), length-append vs (w ∷ []))

pub samples_kept : (n : ℕ) (vs : List (List ℤ)) (w : List ℤ) → All IsSample vs → IsSample w → All IsSample (keep_last n (vs ++ w ∷ []))
samples_kept n vs w h s = All-drop IsSample (length (vs ++ w ∷ []) - n) (vs ++ w ∷ []) (All-push IsSample vs w h s)

-- the sums of the window with one more sample
pub moved_on : (weight : ℕ → ℤ) (n next : ℕ) (totals : List ℤ) (vs : List (List ℤ)) (w : List ℤ) → ((j : ℕ) → weight (j + n) ≡ weight j) → 0 < n → length vs ≤ n → length vs ≤ next
    → length totals ≡ 8 → All IsSample vs → IsSample w → AreSumsOf totals weight (next - length vs) vs
    → AreSumsOf (slid totals (weight next) w (values_left (given_up n vs))) weight (next + 1 - length (keep_last n (vs ++ w ∷ []))) (keep_last n (vs ++ w ∷ []))
moved_on weight n next totals vs w repeats some few started eight h s sums =
    let here : next - length vs + length vs ≡ next = omega arith in
    let there : next - length vs + 1 + length vs ≡ next + 1 = omega arith in
    rw (here, there) at (AreSumsOf-push weight n (next - length vs) totals vs w repeats some few eight s.eight (λ i d lt. (h i d lt).eight) sums)

length-slid : (totals : List ℤ) (weight : ℤ) (new left : List ℤ) → length totals ≡ 8 → length new ≡ 8 → length left ≡ 8 → length (slid totals weight new left) ≡ 8
length-slid totals weight new left a b c =
    let long = length-zip2 (λ x y. x -ℤ y) new left (omega arith) in
    let longer : length (multiples (differences new left) weight) ≡ 8 = length-map (differences new left) (λ x. x *ℤ weight) ∙ omega arith in
    length-zip2 (λ x y. x +ℤ y) totals (multiples (differences new left) weight) (omega arith) ∙ a

first_of_window : (n : ℕ) (vs : List (List ℤ)) → 0 < n → n ≤ length vs → All IsSample vs → length (values_left (slice_get vs 0)) ≡ 8
first_of_window n [] some full h = absurd (omega arith)
first_of_window n (v ∷ vs) some full h = (h 0 v (omega arith)).eight

given_by : (n : ℕ) (vs : List (List ℤ)) → 0 < n → All IsSample vs → (b : Bool) → nat_lt (length vs) n ≡ b → length (values_left (if b then None else slice_get vs 0)) ≡ 8
given_by n vs some h true e = refl
given_by n vs some h false e = first_of_window n vs some (ltb-false _ _ e) h

length-given_up : (n : ℕ) (vs : List (List ℤ)) → 0 < n → length vs ≤ n → All IsSample vs → length (values_left (given_up n vs)) ≡ 8
length-given_up n vs some few h = given_by n vs some h (nat_lt (length vs) n) refl

-- one step of one of the two sums
pub record Moved (weight : ℕ → ℤ) (n next : ℕ) (totals : List ℤ) (vs : List (List ℤ)) (w : List ℤ) : Type 0 where
  pub small : AllBelow (slid totals (weight next) w (values_left (given_up n vs))) (2 ^ 49)
  pub sums : AreSumsOf (slid totals (weight next) w (values_left (given_up n vs))) weight (next + 1 - length (keep_last n (vs ++ w ∷ []))) (keep_last n (vs ++ w ∷ []))

pub moves : (weight : ℕ → ℤ) (n next : ℕ) (totals : List ℤ) (vs : List (List ℤ)) (w : List ℤ) → ((j : ℕ) → weight (j + n) ≡ weight j) → ((j : ℕ) → unsigned_abs (weight j) < 16385)
    → 0 < n → n ≤ 96 → length vs ≤ n → length vs ≤ next → length totals ≡ 8 → All IsSample vs → IsSample w → AreSumsOf totals weight (next - length vs) vs → Moved weight n next totals vs w
moves weight n next totals vs w repeats bound some most few started eight h s sums =
    let after = moved_on weight n next totals vs w repeats some few started eight h s sums in
    let kept : length (keep_last n (vs ++ w ∷ [])) ≤ 96 = omega (arith, length-keep_last n vs w) in
    record {
      sums = after;
      small = totals_below _ weight _ _ bound kept (samples_kept n vs w h s) (length-slid totals (weight next) w (values_left (given_up n vs)) eight s.eight (length-given_up n vs some few h)) after;
    }

no_sums : (weight : ℕ → ℤ) (first : ℕ) → AreSumsOf (replicate 8 (pos 0)) weight first []
no_sums weight first = record { lanes = λ k lt. get_or-replicate 8 k (pos 0) (pos 0) lt }

pub IsSliding-empty : (n next : ℕ) (s : Slider) → s.n ≡ n → s.count ≡ 0 → s.re ≡ replicate 8 (pos 0) → s.im ≡ replicate 8 (pos 0) → IsSliding n next (buffer [] n) s
IsSliding-empty n next s a b re im = record {
  cycle = a;
  capacity = refl;
  few = omega arith;
  count = b;
  started = omega arith;
  samples = All-nil IsSample;
  re = rw re (no_sums (real_weight n) (next - 0));
  im = rw im (no_sums (imaginary_weight n) (next - 0));
}
