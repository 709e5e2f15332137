-- The voltages of the last cycle, as a memory keeps them.
use Rattle.std.proofs.Common.{◌≡◌, ℕ, zero, suc, ◌+◌, ◌-◌, ◌<◌, min, refl, sym, ap, ◌∙◌, arith, List, [], ◌∷◌, ◌++◌, length, get_or, map, take, drop, reverse, inl, inr}
use Rattle.std.specs.Prelude.{Option, None, slice_get, nat_lt, if◌then◌else◌}
use Rattle.std.specs.Option.{option_flatten}
use Rattle.std.proofs.lemmas.Bool.{cases_lt, le-leb, lt-leb, cond-true, cond-false}
use Rattle.std.proofs.lemmas.List.{take-append-drop, reverse-append, length-reverse, length-drop, length-take, length-map, take-take, take_more, drop_all}
use Rattle.std.proofs.Math.Seq.{drop-append_seam}
use Rattle.circular_buffer.specs.Buffer.{Buffer, buffer, keep_last}
use Rattle.relay_num.specs.declared.Cx.{Cx}
use Rattle.memory_volt.specs.Polarising.{VoltTake, voltage_of, voltage_now}
use Rattle.memory_volt.specs.KeptMemory.{cycle_of}

module _ {X : Type 0} where
  -- the last of a list turned round are its first ones turned round
  keep_last-reverse : (n : ℕ) (xs : List X) → keep_last n (reverse xs) ≡ reverse (take n xs)
  keep_last-reverse n xs =
      let parts : reverse xs ≡ reverse (drop n xs) ++ reverse (take n xs) = ap reverse (sym (take-append-drop n xs)) ∙ reverse-append (take n xs) (drop n xs) in
      let before : length (reverse xs) - n ≡ length (reverse (drop n xs)) = omega (arith, length-reverse xs, length-reverse (drop n xs), length-drop n xs) in
      ap (λ k. drop k (reverse xs)) before ∙ ap (drop (length (reverse (drop n xs)))) parts ∙ drop-append_seam (reverse (drop n xs)) (reverse (take n xs))

  -- the newest n and one more, after one more
  take_newest : (n : ℕ) (x : X) (xs : List X) → take (n + 1) (x ∷ take (n + 1) xs) ≡ take (n + 1) (x ∷ xs)
  take_newest n x xs =
      let e : n + 1 ≡ suc n = omega arith in
      rw e (ap (λ ys. x ∷ ys) (take-take n (suc n) xs (omega arith)))

  newest_pushed : (n : ℕ) (x : X) (xs : List X) → keep_last (n + 1) (reverse (take (n + 1) xs) ++ x ∷ []) ≡ reverse (take (n + 1) (x ∷ xs))
  newest_pushed n x xs =
      ap (keep_last (n + 1)) (sym (reverse-append (x ∷ []) (take (n + 1) xs)))
      ∙ keep_last-reverse (n + 1) (x ∷ take (n + 1) xs) ∙ ap reverse (take_newest n x xs)

voltage_get : (takes : List VoltTake) (n : ℕ) → get_or (map voltage_of takes) n None ≡ voltage_now (drop n takes)
voltage_get [] zero = refl
voltage_get [] (suc n) = refl
voltage_get (t ∷ older) zero = refl
voltage_get (t ∷ older) (suc n) = voltage_get older n

-- what a push leaves
pub cycle_next : (n : ℕ) (takes : List VoltTake) (t : VoltTake) (old new : Buffer (Option Cx)) → old ≡ buffer (cycle_of n takes) (n + 1) →
    new ≡ buffer (keep_last old.capacity (old.items ++ voltage_of t ∷ [])) old.capacity → new ≡ buffer (cycle_of n (t ∷ takes)) (n + 1)
cycle_next n takes t old new is pushed =
    pushed ∙ ap (λ b. buffer (keep_last b.capacity (b.items ++ voltage_of t ∷ [])) b.capacity) is
    ∙ ap (λ items. buffer items (n + 1)) (newest_pushed n (voltage_of t) (map voltage_of takes))

-- what it answers is the voltage of a cycle before
oldest_is : (n : ℕ) (takes : List VoltTake) →
    option_flatten (if nat_lt (length (cycle_of n takes)) (n + 1) then None else slice_get (cycle_of n takes) 0) ≡ voltage_now (drop n takes)
oldest_is n takes =
    let voltages : List (Option Cx) = map voltage_of takes in
    let long : length (cycle_of n takes) ≡ min (n + 1) (length takes) =
    length-reverse (take (n + 1) voltages) ∙ length-take (n + 1) voltages ∙ ap (min (n + 1)) (length-map takes voltage_of) in
    elim (cases_lt n (length takes)) [
      | inl l ↦
          (let within : n < length voltages = omega (arith, l, length-map takes voltage_of) in
          let first : cycle_of n takes ≡ get_or voltages n None ∷ reverse (take n voltages) =
          ap reverse (take_more voltages n None within) ∙ reverse-append (take n voltages) (get_or voltages n None ∷ []) in
          ap option_flatten (cond-false _ _ _ (lt-leb (suc (length (cycle_of n takes))) (n + 1) (omega (arith, long, l))) ∙ ap (λ items. slice_get items 0) first)
          ∙ voltage_get takes n)
      | inr g ↦
          ap option_flatten (cond-true _ _ _ (le-leb (suc (length (cycle_of n takes))) (n + 1) (omega (arith, long, g))))
          ∙ ap voltage_now (sym (drop_all n takes g))
    ]

pub cycle_before_is : (n : ℕ) (takes : List VoltTake) (old : Buffer (Option Cx)) (oldest : Option (Option Cx)) (before : Option Cx) →
    old ≡ buffer (cycle_of n takes) (n + 1) → oldest ≡ (if nat_lt (length old.items) old.capacity then None else slice_get old.items 0) →
    before ≡ option_flatten oldest → before ≡ voltage_now (drop n takes)
cycle_before_is n takes old oldest before is e f =
    f ∙ ap option_flatten e ∙ ap (λ (b : Buffer (Option Cx)). option_flatten (if nat_lt (length b.items) b.capacity then None else slice_get b.items 0)) is ∙ oldest_is n takes
