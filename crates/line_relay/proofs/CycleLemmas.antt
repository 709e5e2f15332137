-- The window of the last run of good samples, and the sums over a full one.
use Rattle.std.proofs.Common.{◌≡◌, ℕ, zero, suc, ◌+◌, ◌-◌, ◌<◌, ◌≤◌, ◌^◌, ◌↔◌, min, Bool, true, false, cond, leb, refl, sym, ap, ap₂, ◌∙◌, arith, List, [], ◌∷◌, ◌++◌, length, get_or, map, take, drop, reverse, ℤ, pos, negsuc, unsigned_abs, All, ◌+ℤ◌, ◌*ℤ◌, inl, inr, Option, Some, None, IsNone, IfSome, ◌==◌}
use Rattle.std.specs.Option.{ForSome}
use Rattle.std.proofs.lemmas.List.{take-append-drop, reverse-append, length-reverse, length-append, length-drop, length-take, length-map, drop-drop, take-take, drop-append-le, map-append}
use Rattle.std.proofs.Math.Seq.{drop-append_seam, drop-nil}
use Rattle.std.proofs.lemmas.Simd.{get_or-zip2, length-zip2}
use Rattle.std.proofs.lemmas.Bool.{false≢true, cases_Bool, and_parts, lt-leb}
use Rattle.std.proofs.lemmas.Bool.Decides.{nat_tests}
use Rattle.sample_windows.specs.Numbered.{newest_number, up_to, Rises, held_for, run_of}
use Rattle.sample_windows.proofs.NumberedLemmas.{held_for-run, up_to-in_run}
use Rattle.circular_buffer.specs.Buffer.{Buffer, keep_last}
use Rattle.relay_num.specs.Numbers.{floor_div, IsBelow}
use Rattle.relay_num.specs.WeightedSums.{lane, weighted_sum, real_weight, imaginary_weight}
use Rattle.relay_num.specs.declared.Cx.{Cx}
use Rattle.relay_num.proofs.Signed.{signed}
use Rattle.relay_num.proofs.Wide.{complex, same_parts}
use Rattle.relay_num.proofs.WeightedSumLaws.{weighted_sum-push}
use Rattle.relay_num.specs.Bounds.{AllBelow}
use Rattle.cycle_phasor.specs.Sliding.{AreSumsOf, floored}
use Rattle.cycle_phasor.specs.declared.Slider.{Slider}
use Rattle.cycle_phasor.specs.Window.{IsSliding}
use Rattle.mimic_filter.specs.Mimic.{filtered, filtered_lanes}
use Rattle.sample_windows.specs.Windows.{at_each}
use Rattle.sample_windows.proofs.WindowLemmas.{length-at_each}
use Rattle.relay_settings.specs.declared.types.Mimic.{Mimic}
use Rattle.line_relay.specs.LineSamples.{newest_of, Numbered, number_of_sample, good_now, values_now, is_ready, needed}
use Rattle.line_relay.specs.Phasors.{filtered_at, sum_below, cycle_sum, phasor_of, phasors_of, eight}
use Rattle.line_relay.specs.KeptSamples.{next_after, lanes_now, window, kept_now, filter_after, lanes_after}
use Rattle.cycle_phasor.specs.Window.{window_with}

module _ {X : Type 0} where
  reverse-cons : (x : X) (xs : List X) → reverse (x ∷ xs) ≡ reverse xs ++ x ∷ []
  reverse-cons x xs = reverse-append (x ∷ []) xs

  -- what was dropped before doesn't count when more comes
  keep_last-push : (n : ℕ) (zs : List X) (v : X) → keep_last n (keep_last n zs ++ v ∷ []) ≡ keep_last n (zs ++ v ∷ [])
  keep_last-push n zs v =
      let a : ℕ = length zs - n in
      let joined : drop a zs ++ v ∷ [] ≡ drop a (zs ++ v ∷ []) = sym (drop-append-le a zs (v ∷ []) (omega arith)) in
      let b : ℕ = length (drop a zs ++ v ∷ []) - n in
      let both : a + b ≡ length (zs ++ v ∷ []) - n = omega (arith, length-append zs (v ∷ []), length-append (drop a zs) (v ∷ []), length-drop a zs) in
      ap (drop b) joined ∙ drop-drop b a (zs ++ v ∷ []) ∙ ap (λ k. drop k (zs ++ v ∷ [])) both

  keep_last-reverse : (n : ℕ) (xs : List X) → keep_last n (reverse xs) ≡ reverse (take n xs)
  keep_last-reverse n xs =
      let parts : reverse xs ≡ reverse (drop n xs) ++ reverse (take n xs) = ap reverse (sym (take-append-drop n xs)) ∙ reverse-append (take n xs) (drop n xs) in
      let before : length (reverse xs) - n ≡ length (reverse (drop n xs)) = omega (arith, length-reverse xs, length-reverse (drop n xs), length-drop n xs) in
      ap (λ k. drop k (reverse xs)) before ∙ ap (drop (length (reverse (drop n xs)))) parts ∙ drop-append_seam (reverse (drop n xs)) (reverse (take n xs))

  -- f a, f (a + 1), .., n in all
  abbrev pub listed : (ℕ → X) → ℕ → ℕ → List X
  listed f a zero = []
  listed f a (suc n) = f a ∷ listed f (suc a) n

  listed_is : (f : ℕ → X) (a n : ℕ) (xs : List X) → length xs ≡ n → ((k : ℕ) (d : X) → k < n → get_or xs k d ≡ f (a + k)) → xs ≡ listed f a n
  listed_is f a zero [] e h = refl
  listed_is f a zero (x ∷ xs) e h = absurd (omega arith)
  listed_is f a (suc n) [] e h = absurd (omega arith)
  listed_is f a (suc n) (x ∷ xs) e h =
      let first : x ≡ f a = h 0 x (omega arith) ∙ ap f (omega arith) in
      ap₂ (λ y ys. y ∷ ys) first (listed_is f (suc a) n xs (omega arith) (λ k d lt. h (suc k) d (omega arith) ∙ ap f (omega arith)))

abbrev run : List Numbered → ℕ
run samples = run_of number_of_sample good_now samples

run_none : (samples : List Numbered) → good_now samples ≡ false → run samples ≡ 0
unfolding run_of
run_none [] e = refl
run_none (s ∷ older) e = rw e refl

run_some : (samples : List Numbered) → good_now samples ≡ true → 0 < run samples
unfolding run_of
run_some [] e = absurd (false≢true e)
run_some (s ∷ older) e = rw e (either (s.number == newest_number number_of_sample older + 1) (run older))
  where
    either : (b : Bool) (r : ℕ) → 0 < cond b (suc r) 1
    either true r = omega arith
    either false r = omega arith

kept_is : (m : Mimic) (samples : List Numbered) → kept_now (Some m) samples ≡ cond (good_now samples) (Some (values_now samples)) None
kept_is m [] = refl
kept_is m (s ∷ older) = refl

pub window_empty : (n : ℕ) (mimic : Option Mimic) → window n mimic [] ≡ []
unfolding window run_of at_each
window_empty n None = drop-nil (0 - n)
window_empty n (Some m) = drop-nil (0 - n)

-- the window after one more sample
pub window_next : (n : ℕ) (mimic : Option Mimic) (s : Numbered) (samples : List Numbered)
    → window n mimic (s ∷ samples) ≡ window_with n (s.number == next_after (newest_of samples)) (lanes_after mimic (kept_now mimic samples) (s.number == next_after (newest_of samples)) s.sample) (window n mimic samples)
unfolding window run_of at_each
window_next n None s [] = alone s.sample.good (s.number == 1) (s.number == 0)
  where
    v : List ℤ
    v = s.sample.values

    alone : (good p q : Bool) → keep_last n (reverse (take (cond good (cond p 1 1) 0 - 0) (v ∷ []))) ≡ window_with n q (cond good (Some v) None) (keep_last n (reverse (take (0 - 0) [])))
    alone false p q = drop-nil (0 - n)
    alone true true true = ap (λ l. keep_last n (l ++ v ∷ [])) (sym (drop-nil (0 - n)))
    alone true false true = ap (λ l. keep_last n (l ++ v ∷ [])) (sym (drop-nil (0 - n)))
    alone true true false = refl
    alone true false false = refl
window_next n None s (t ∷ older) = step s.sample.good (s.number == t.number + 1) (run (t ∷ older)) (at_each (lanes_now None) (t ∷ older))
  where
    v : List ℤ
    v = s.sample.values

    step : (good next : Bool) (r : ℕ) (vs : List (List ℤ)) → keep_last n (reverse (take (cond good (cond next (suc r) 1) 0 - 0) (v ∷ vs))) ≡ window_with n next (cond good (Some v) None) (keep_last n (reverse (take (r - 0) vs)))
    step false next r vs = drop-nil (0 - n)
    step true true r vs =
        let all : r - 0 ≡ r = omega arith in
        let more : suc r - 0 ≡ suc r = omega arith in
        rw (all, more) (ap (keep_last n) (reverse-cons v (take r vs)) ∙ sym (keep_last-push n (reverse (take r vs)) v))
    step true false r vs = refl
window_next n (Some m) s [] = alone s.sample.good (s.number == 1) (s.number == 0)
  where
    v : List ℤ
    v = filtered_lanes m.a m.b s.sample.values []

    alone : (good p q : Bool) → keep_last n (reverse (take (cond good (cond p 1 1) 0 - 1) (v ∷ []))) ≡ window_with n q (cond good (filter_after (Some m) (cond q None None) s.sample.values) None) (keep_last n (reverse (take (0 - 1) [])))
    alone false p q = drop-nil (0 - n)
    alone true true true = drop-nil (0 - n)
    alone true false true = drop-nil (0 - n)
    alone true true false = drop-nil (0 - n)
    alone true false false = drop-nil (0 - n)
window_next n (Some m) s (t ∷ older) =
    step s.sample.good (s.number == t.number + 1) t.sample.good (run (t ∷ older)) (at_each (lanes_now (Some m)) (t ∷ older)) (run_none (t ∷ older)) (run_some (t ∷ older))
  where
    v : List ℤ
    v = filtered_lanes m.a m.b s.sample.values t.sample.values

    step : (good next before : Bool) (r : ℕ) (vs : List (List ℤ)) → (before ≡ false → r ≡ 0) → (before ≡ true → 0 < r)
        → keep_last n (reverse (take (cond good (cond next (suc r) 1) 0 - 1) (v ∷ vs)))
        ≡ window_with n next (cond good (filter_after (Some m) (cond next (cond before (Some t.sample.values) None) None) s.sample.values) None) (keep_last n (reverse (take (r - 1) vs)))
    step false next before r vs none some = drop-nil (0 - n)
    step true false before r vs none some = drop-nil (0 - n)
    step true true false r vs none some = let e : suc r - 1 ≡ 0 = omega (arith, none refl) in rw e (drop-nil (0 - n))
    step true true true r vs none some =
        let e : suc r - 1 ≡ suc (r - 1) = omega (arith, some refl) in
        rw e (ap (keep_last n) (reverse-cons v (take (r - 1) vs)) ∙ sym (keep_last-push n (reverse (take (r - 1) vs)) v))

run_within : (samples : List Numbered) → run samples ≤ length samples
unfolding run_of
run_within [] = omega arith
run_within (s ∷ older) = step s.sample.good (s.number == newest_number number_of_sample older + 1) (run older) (run_within older)
  where
    step : (good next : Bool) (r : ℕ) → r ≤ length older → cond good (cond next (suc r) 1) 0 ≤ suc (length older)
    step false next r h = omega arith
    step true true r h = omega arith
    step true false r h = omega arith

pub length-window : (n : ℕ) (mimic : Option Mimic) (samples : List Numbered) → length (window n mimic samples) ≡ min (run samples - needed mimic) n
unfolding window
length-window n mimic samples =
    let r : ℕ = run samples - needed mimic in
    let all : List (List ℤ) = at_each (lanes_now mimic) samples in
    omega (arith, length-drop (length (reverse (take r all)) - n) (reverse (take r all)), length-reverse (take r all), length-take r all, length-at_each (lanes_now mimic) samples, run_within samples)

-- a full window
window_is : (n : ℕ) (mimic : Option Mimic) (samples : List Numbered) → n ≤ run samples - needed mimic → window n mimic samples ≡ reverse (take n (at_each (lanes_now mimic) samples))
unfolding window
window_is n mimic samples h =
    let r : ℕ = run samples - needed mimic in
    let all : List (List ℤ) = at_each (lanes_now mimic) samples in
    keep_last-reverse n (take r all) ∙ ap reverse (take-take n r all h)

sum_below_same : (n : ℕ) (f g : ℕ → ℤ) → ((k : ℕ) → k < n → f k ≡ g k) → sum_below n f ≡ sum_below n g
unfolding sum_below
sum_below_same zero f g same = refl
sum_below_same (suc n) f g same = ap₂ (λ a b. a +ℤ b) (same 0 (omega arith)) (sum_below_same n (λ k. f (suc k)) (λ k. g (suc k)) (λ k h. same (suc k) (omega arith)))

swapped : (a b : ℤ) → a +ℤ b ≡ b +ℤ a
swapped a b = omega (arith, signed)

-- a sum in order is the sum that goes back from the newest
sum_back : (weight : ℕ → ℤ) (c n first : ℕ) (all : List (List ℤ)) → n ≤ length all
    → weighted_sum weight first (map (lane c) (reverse (take n all))) ≡ sum_below n (λ k. lane c (get_or all k []) *ℤ weight (first + n - suc k))
unfolding sum_below
sum_back weight c zero first all h = refl
sum_back weight c (suc n) first [] h = absurd (omega arith)
sum_back weight c (suc n) first (v ∷ all) h =
    let vs : List (List ℤ) = take n all in
    let x : ℤ = lane c v in
    let last : first + length (map (lane c) (reverse vs)) ≡ first + suc n - suc 0 = omega (arith, length-map (reverse vs) (lane c), length-reverse vs, length-take n all) in
    let same = sum_below_same n (λ k. lane c (get_or all k []) *ℤ weight (first + n - suc k)) (λ k. lane c (get_or all k []) *ℤ weight (first + suc n - suc (suc k)))
    (λ k lt. ap (λ j. lane c (get_or all k []) *ℤ weight j) (omega arith)) in
    ap (λ l. weighted_sum weight first (map (lane c) l)) (reverse-cons v vs)
    ∙ ap (weighted_sum weight first) (map-append (lane c) (reverse vs) (v ∷ []))
    ∙ weighted_sum-push weight first (map (lane c) (reverse vs)) x
    ∙ ap₂ (λ a j. a +ℤ x *ℤ weight j) (sum_back weight c n first all (omega arith) ∙ same) last
    ∙ swapped (sum_below n (λ k. lane c (get_or all k []) *ℤ weight (first + suc n - suc (suc k)))) (x *ℤ weight (first + suc n - 1))

get_or-at_each : {X Y : Type 0} (fact : List X → Y) (xs : List X) (k : ℕ) (d : Y) → k < length xs → get_or (at_each fact xs) k d ≡ fact (drop k xs)
unfolding at_each
get_or-at_each fact [] k d h = absurd (omega arith)
get_or-at_each fact (x ∷ xs) zero d h = refl
get_or-at_each fact (x ∷ xs) (suc k) d h = get_or-at_each fact xs k d (omega arith)

-- each sample has eight values
abbrev pub AllEight : List Numbered → Type 0
AllEight samples = (k : ℕ) → k < length samples → length (values_now (drop k samples)) ≡ 8

-- in a run the filtered lanes are the filtered values at the numbers
lanes_are : (mimic : Option Mimic) (c : ℕ) (samples : List Numbered) (k : ℕ) → AllEight samples → c < 8 → k < run samples - needed mimic
    → lane c (lanes_now mimic (drop k samples)) ≡ filtered_at mimic c samples (newest_number number_of_sample samples - k)
lanes_are None c samples k eights lt h = ap (λ s. lane c (values_now s)) (sym (up_to-in_run number_of_sample good_now k samples (omega arith)))
lanes_are (Some m) c samples k eights lt h =
    let one : k + 1 ≡ suc k = omega arith in
    let next : drop 1 (drop k samples) ≡ drop (suc k) samples = drop-drop 1 k samples ∙ ap (λ j. drop j samples) one in
    let before : newest_number number_of_sample samples - k - 1 ≡ newest_number number_of_sample samples - suc k = omega arith in
    let a : length (values_now (drop k samples)) ≡ 8 = eights k (omega (arith, run_within samples)) in
    let b : length (values_now (drop (suc k) samples)) ≡ 8 = eights (suc k) (omega (arith, run_within samples)) in
    ap (λ l. lane c (filtered_lanes m.a m.b (values_now (drop k samples)) (values_now l))) next
    ∙ get_or-zip2 (filtered m.a m.b) (values_now (drop k samples)) (values_now (drop (suc k) samples)) c (pos 0) (pos 0) (pos 0) (omega (arith, a)) (omega (arith, b))
    ∙ ap₂ (λ s t. filtered m.a m.b (lane c (values_now s)) (lane c (values_now t)))
    (sym (up_to-in_run number_of_sample good_now k samples (omega arith)))
    (sym (up_to-in_run number_of_sample good_now (suc k) samples (omega arith)) ∙ ap (λ j. up_to number_of_sample j samples) (sym before))

-- the sum of a full window is the sum over the last n numbers
pub cycle_sum_is : (weight : ℕ → ℤ) (n : ℕ) (mimic : Option Mimic) (c : ℕ) (samples : List Numbered) → AllEight samples → c < 8 → n ≤ run samples - needed mimic → n ≤ newest_number number_of_sample samples + 1
    → weighted_sum weight (newest_number number_of_sample samples + 1 - n) (map (lane c) (window n mimic samples)) ≡ cycle_sum weight n (filtered_at mimic c samples) (newest_number number_of_sample samples)
cycle_sum_is weight n mimic c samples eights lt8 full room =
    let m : ℕ = newest_number number_of_sample samples in
    let all : List (List ℤ) = at_each (lanes_now mimic) samples in
    ap (λ l. weighted_sum weight (m + 1 - n) (map (lane c) l)) (window_is n mimic samples full)
    ∙ sum_back weight c n (m + 1 - n) all (omega (arith, run_within samples, length-at_each (lanes_now mimic) samples))
    ∙ sum_below_same n (λ k. lane c (get_or all k []) *ℤ weight (m + 1 - n + n - suc k)) (λ k. filtered_at mimic c samples (m - k) *ℤ weight (m - k))
    (λ k lt.
    let at : m + 1 - n + n - suc k ≡ m - k = omega arith in
    ap₂ (λ x j. x *ℤ weight j) (ap (lane c) (get_or-at_each (lanes_now mimic) samples k [] (omega (arith, run_within samples))) ∙ lanes_are mimic c samples k eights lt8 (omega arith)) at)

leb_yes : (a b : ℕ) → leb a b ≡ true → a ≤ b
leb_yes a b h = grind (arith, nat_tests)

leb_no : (a b : ℕ) → leb a b ≡ false → b < a
leb_no a b h = grind (arith, nat_tests)

pub ready_is : (n : ℕ) (mimic : Option Mimic) (samples : List Numbered) → Rises number_of_sample samples → is_ready n mimic samples ≡ leb (n + needed mimic) (run samples)
ready_is n mimic samples rises = held_for-run number_of_sample good_now refl (n + needed mimic) samples rises

ready_room : (n : ℕ) (mimic : Option Mimic) (samples : List Numbered) → is_ready n mimic samples ≡ true → n + needed mimic ≤ newest_number number_of_sample samples + 1
unfolding held_for
ready_room n mimic samples h = leb_yes _ _ (and_parts _ _ h).0

module _ (n : ℕ) (mimic : Option Mimic) (samples : List Numbered) (ring : Buffer (List ℤ)) (slider : Slider) (rises : Rises number_of_sample samples) (eights : AllEight samples) (some : 0 < n)
    (sliding : IsSliding n (newest_number number_of_sample samples + 1) ring slider) (items : ring.items ≡ window n mimic samples) where
  -- sums of a full window
  full_sums : (totals : List ℤ) (weight : ℕ → ℤ) → n ≤ run samples - needed mimic → n ≤ newest_number number_of_sample samples + 1
      → AreSumsOf totals weight (newest_number number_of_sample samples + 1 - length ring.items) ring.items
      → (k : ℕ) → k < 8 → lane k totals ≡ cycle_sum weight n (filtered_at mimic k samples) (newest_number number_of_sample samples)
  full_sums totals weight full room sums k lt =
      let m : ℕ = newest_number number_of_sample samples in
      let long : length ring.items ≡ n = ap length items ∙ length-window n mimic samples ∙ omega arith in
      sums.lanes k lt ∙ ap₂ (λ a l. weighted_sum weight a (map (lane k) l)) (ap (λ a. m + 1 - a) long) items ∙ cycle_sum_is weight n mimic k samples eights lt full room

  full_phasors : length slider.re ≡ 8 → length slider.im ≡ 8 → n ≤ run samples - needed mimic → n ≤ newest_number number_of_sample samples + 1
      → floored slider.re slider.im ≡ eight (phasor_of n mimic samples)
  full_phasors a b full room =
      let floor : ℤ → ℤ → Cx = λ x y. complex (floor_div x (2 ^ 19)) (floor_div y (2 ^ 19)) in
      listed_is (phasor_of n mimic samples) 0 8 (floored slider.re slider.im) (length-zip2 floor slider.re slider.im (omega arith) ∙ a)
      (λ k d lt.
      get_or-zip2 floor slider.re slider.im k (pos 0) (pos 0) d (omega arith) (omega arith)
      ∙ same_parts (ap (λ z. floor_div z (2 ^ 19)) (full_sums slider.re (real_weight n) full room sliding.re k lt)) (ap (λ z. floor_div z (2 ^ 19)) (full_sums slider.im (imaginary_weight n) full room sliding.im k lt))
      ∙ ap (phasor_of n mimic samples) (omega arith))

  -- what the slider tells is there exactly at Ready, and is then the plain phasors
  pub phasors_are : (told : Option (List Cx)) → length slider.re ≡ 8 → length slider.im ≡ 8 → (IsNone told ↔ (slider.count < slider.n)) → IfSome told (λ p. p ≡ floored slider.re slider.im)
      → told ≡ phasors_of n mimic samples
  phasors_are None a b none is =
      let few : slider.count < slider.n = none.0 refl in
      let short : run samples < n + needed mimic = omega (arith, few, sliding.cycle, sliding.count, ap length items, length-window n mimic samples) in
      rw (ready_is n mimic samples rises ∙ lt-leb (n + needed mimic) (run samples) short) refl
  phasors_are (Some p) a b none is = elim (cases_Bool (is_ready n mimic samples)) [
    | inl on ↦
        (let full : n + needed mimic ≤ run samples = leb_yes _ _ (sym (ready_is n mimic samples rises) ∙ on) in
        rw on (ap Some (is ∙ full_phasors a b (omega (arith, full)) (omega (arith, ready_room n mimic samples on)))))
    | inr off ↦
        (let short : run samples < n + needed mimic = leb_no _ _ (sym (ready_is n mimic samples rises) ∙ off) in
        absurd (false≢true (sym (none.1 (omega (arith, short, some, sliding.cycle, sliding.count, ap length items, length-window n mimic samples))))))
  ]

-- sums below 2^49 make phasors of at most 2^30
floor_small : (z : ℤ) → unsigned_abs z < 2 ^ 49 → unsigned_abs (floor_div z (2 ^ 19)) < 2 ^ 30 + 1
floor_small (pos n) h = omega arith
floor_small (negsuc n) h = omega arith

pub phasors_small : (told : Option (List Cx)) (re im : List ℤ) → IfSome told (λ p. p ≡ floored re im) → length re ≡ 8 → length im ≡ 8 → AllBelow re (2 ^ 49) → AllBelow im (2 ^ 49) →
    ForSome told (λ p. All (λ x. IsBelow x (2 ^ 30 + 1)) p)
phasors_small told re im is a b h k = λ p some. rw (rw some at is) (small p)
  where
    floor : ℤ → ℤ → Cx
    floor x y = complex (floor_div x (2 ^ 19)) (floor_div y (2 ^ 19))

    small : (p : List Cx) → All (λ x. IsBelow x (2 ^ 30 + 1)) (floored re im)
    small p i d lt =
        let long : i < 8 = omega (arith, lt, length-zip2 floor re im (omega arith), a) in
        rw (get_or-zip2 floor re im i (pos 0) (pos 0) d (omega arith) (omega arith))
        (record { re = floor_small (get_or re i (pos 0)) (h i (pos 0) (omega arith)); im = floor_small (get_or im i (pos 0)) (k i (pos 0) (omega arith)) })
