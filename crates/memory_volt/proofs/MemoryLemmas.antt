-- What polarises, and how long the run of low takes is, after one more take.
use Rattle.std.proofs.Common.{◌≡◌, ◌≢◌, ℕ, suc, ◌+◌, ◌<◌, ◌≤◌, min, true, false, Bool, cond, refl, sym, ap, ◌∙◌, arith, List, ◌∷◌, drop, one-add, inl, inr}
use Rattle.std.specs.Prelude.{Option, None, if◌then◌else◌}
use Rattle.std.proofs.lemmas.Bool.{cases_lt, cases_eq, le-leb, lt-leb, ne_eqb, cond-true, cond-false}
use Rattle.relay_num.specs.declared.Cx.{Cx}
use Rattle.memory_volt.specs.Polarising.{VoltTake, voltage_of, voltage_now, low_run, polarising}
use Rattle.memory_volt.specs.KeptMemory.{StandsFor}
use Rattle.memory_volt.specs.declared.MemoryVolt.{MemoryVolt}

-- in a run of low takes that are held for
in_run : (n hold : ℕ) (takes : List VoltTake) → 0 < low_run takes → low_run takes ≤ hold →
    polarising n hold takes ≡ voltage_now (drop (low_run takes + n) takes)
in_run n hold takes some held =
    cond-false _ _ _ (ne_eqb (low_run takes) 0 (λ e. omega (arith, e, some))) ∙ cond-true _ _ _ (le-leb (low_run takes) hold held)

past_hold : (n hold : ℕ) (takes : List VoltTake) → hold < low_run takes → polarising n hold takes ≡ None
past_hold n hold takes over =
    cond-false _ _ _ (ne_eqb (low_run takes) 0 (λ e. omega (arith, e, over))) ∙ cond-false _ _ _ (lt-leb (low_run takes) hold over)

-- one more low take looks back at the same voltage
low_next : (t : VoltTake) (takes : List VoltTake) → t.low ≡ true → low_run (t ∷ takes) ≡ suc (low_run takes)
low_next t takes low = rw (low, one-add) refl

back_next : (n : ℕ) (t : VoltTake) (takes : List VoltTake) → t.low ≡ true →
    voltage_now (drop (low_run (t ∷ takes) + n) (t ∷ takes)) ≡ voltage_now (drop (low_run takes + n) takes)
back_next n t takes low =
    let place : low_run (t ∷ takes) + n ≡ suc (low_run takes + n) = omega (arith, low_next t takes low) in
    ap (λ k. voltage_now (drop k (t ∷ takes))) place

module _ (n hold : ℕ) (takes : List VoltTake) (memory : MemoryVolt) (stands : StandsFor n hold takes memory) (t : VoltTake) where
  -- at a low take
  pub remembered_is : (before remembered : Option Cx) → t.low ≡ true → before ≡ voltage_now (drop n takes) →
      (memory.run ≡ memory.hold → remembered ≡ None) →
      (memory.run ≢ memory.hold → memory.run ≡ 0 → remembered ≡ before) →
      (memory.run ≢ memory.hold → memory.run ≢ 0 → remembered ≡ memory.frozen) →
      remembered ≡ polarising n hold (t ∷ takes)
  remembered_is before remembered low is over fresh kept =
      let more = low_next t takes low in
      let back = back_next n t takes low in
      elim (cases_lt (low_run takes) hold) [
        | inr past ↦
            (let full : memory.run ≡ memory.hold = omega (arith, stands.run, stands.same_hold, past) in
            over full ∙ sym (past_hold n hold (t ∷ takes) (omega (arith, more, past))))
        | inl held ↦
            (let free : memory.run ≢ memory.hold = λ e. omega (arith, stands.run, stands.same_hold, held, e) in
            let polarises = in_run n hold (t ∷ takes) (omega (arith, more)) (omega (arith, more, held)) ∙ back in
            elim (cases_eq memory.run 0) [
              | inl first ↦
                  (let none : low_run takes + n ≡ n = omega (arith, stands.run, held, first) in
                  fresh free first ∙ is ∙ ap (λ k. voltage_now (drop k takes)) (sym none) ∙ sym polarises)
              | inr later ↦
                  kept free later ∙ stands.frozen ∙ in_run n hold takes (omega (arith, stands.run, held, later)) (omega (arith, held)) ∙ sym polarises
            ])
      ]

  -- at a take that isn't low
  pub present_is : t.low ≡ false → voltage_of t ≡ polarising n hold (t ∷ takes)
  present_is high = rw high refl

  pub run_next : (run : ℕ) → run ≡ (if t.low then min (memory.run + 1) memory.hold else 0) → run ≡ min (low_run (t ∷ takes)) hold
  run_next run e = e ∙ rw (stands.run, stands.same_hold) (step t.low (low_run takes))
    where
      step : (b : Bool) (r : ℕ) → (if b then min (min r hold + 1) hold else 0) ≡ min (cond b (1 + r) 0) hold
      step true r = omega arith
      step false r = omega arith
