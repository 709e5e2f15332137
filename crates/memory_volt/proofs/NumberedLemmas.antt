-- What polarises over samples is what polarises over the takes of the ready run that ends at the newest: a memory that
-- takes each ready sample and is cleared at any other meets the rule over numbers with gaps.
use Rattle.std.proofs.Common.{◌≡◌, ℕ, suc, ◌+◌, ◌-◌, ◌<◌, Bool, true, false, not, ◌&&◌, refl, sym, ap, ◌∙◌, arith, List, [], ◌∷◌, drop, take, inl, inr}
use Rattle.std.specs.Prelude.{Some, None, if◌then◌else◌}
use Rattle.std.proofs.lemmas.Bool.{cases_lt, le-leb, lt-leb}
use Rattle.std.proofs.lemmas.List.{length-take, drop_all}
use Rattle.sample_windows.specs.Windows.{at_each}
use Rattle.sample_windows.specs.Numbered.{Rises, held_for, run_of, of_run}
use Rattle.sample_windows.proofs.NumberedLemmas.{held_for-run, up_to-in_run}
use Rattle.sample_windows.proofs.RunLemmas.{run_of-drop, of_run-drop, run_of-within}
use Rattle.relay_num.specs.declared.Cx.{Cx}
use Rattle.memory_volt.specs.Polarising.{VoltTake, voltage_of, voltage_now, low_run, polarising}
use Rattle.memory_volt.specs.NumberedPolarising.{low_numbers, voltage_back, polarising_at, volt_take}

module _ {X : Type 0} (number : X → ℕ) (ready low : List X → Bool) (plus : List X → Cx) where
  abbrev said_at : List X → VoltTake
  said_at = volt_take number ready low plus

  no_run : run_of number ready [] ≡ 0
  unfolding run_of
  no_run = refl

  newest_said : (samples : List X) → 0 < run_of number ready samples →
      voltage_now (of_run number ready said_at samples) ≡ voltage_of (said_at samples)
  unfolding at_each
  newest_said [] h = absurd (omega (arith, no_run))
  newest_said (x ∷ older) h =
      let more : run_of number ready (x ∷ older) ≡ suc (run_of number ready (x ∷ older) - 1) = omega arith in
      ap (λ k. voltage_now (take k (at_each said_at (x ∷ older)))) more

  low_numbers_are : (samples : List X) → low_numbers number ready low plus samples ≡ low_run (of_run number ready said_at samples)
  low_numbers_are samples = run_of-within number ready said_at (λ t. t.low) samples

  voltage_back_is : (k : ℕ) (samples : List X) → ready [] ≡ false → Rises number samples →
      voltage_back number ready low plus k samples ≡ voltage_now (drop k (of_run number ready said_at samples))
  voltage_back_is k samples never r =
      let held = held_for-run number ready never (k + 1) samples r in
      elim (cases_lt k (run_of number ready samples)) [
        | inl l ↦
            (let all : held_for number (k + 1) ready samples ≡ true = held ∙ le-leb (k + 1) (run_of number ready samples) (omega (arith, l)) in
            let left : 0 < run_of number ready (drop k samples) = omega (arith, l, run_of-drop number ready k samples l) in
            rw (all, up_to-in_run number ready k samples l)
            (either (low (drop k samples)) (plus (drop k samples))
            ∙ sym (newest_said (drop k samples) left) ∙ ap voltage_now (of_run-drop number ready said_at k samples l)))
        | inr g ↦
            (let broken : held_for number (k + 1) ready samples ≡ false = held ∙ lt-leb (k + 1) (run_of number ready samples) (omega (arith, g)) in
            rw broken (ap voltage_now (sym (drop_all k (of_run number ready said_at samples)
            (omega (arith, g, length-take (run_of number ready samples) (at_each said_at samples)))))))
      ]
    where
      either : (b : Bool) (v : Cx) → (if true && not b then Some v else None) ≡ (if b then None else Some v)
      either true v = refl
      either false v = refl

  -- the law
  pub polarising_numbered : (n hold : ℕ) (samples : List X) → ready [] ≡ false → Rises number samples →
      polarising n hold (of_run number ready said_at samples) ≡ polarising_at number ready low plus n hold samples
  polarising_numbered n hold samples never r =
      rw (low_numbers_are samples, voltage_back_is 0 samples never r, voltage_back_is (low_run (of_run number ready said_at samples) + n) samples never r) refl
