-- What a swing holds after one more take.
use Rattle.std.proofs.Common.{◌≡◌, ◌≢◌, ℕ, suc, ◌+◌, min, leb, eqb, Bool, true, false, ◌||◌, cond, one-add, refl, sym, ap, ◌∙◌, arith, List, ◌∷◌, drop}
use Rattle.std.specs.Prelude.{Some, None, if◌then◌else◌}
use Rattle.std.proofs.lemmas.Bool.{or_right, ne_eqb, eq-eqb}
use Rattle.std.proofs.lemmas.Bool.Decides.{nat_tests}
use Rattle.sample_windows.specs.Below.{any_below}
use Rattle.sample_windows.proofs.WindowLemmas.{each_of_last-run}
use Rattle.sample_windows.proofs.BelowLemmas.{greatest_below_more, greatest_below_first}
use Rattle.relay_settings.specs.declared.types.SwingSettings.{SwingSettings}
use Rattle.swing_block.specs.Swinging.{SwingTake, is_between, is_within, is_declared, run, was_declared, first_declared}
use Rattle.swing_block.specs.KeptSwing.{StandsFor, between_run}
use Rattle.swing_block.specs.declared.swing.Swing.{Swing}

some_is : (b : Bool) (m n : ℕ) → Some m ≡ (if b then Some n else None) → (b ≡ true) × (m ≡ n)
some_is true m n e = (refl, cc)
some_is false m n e = cc

none_is : (b : Bool) (n : ℕ) → None ≡ (if b then Some n else None) → b ≡ false
none_is true n e = cc
none_is false n e = refl

-- a run that is counted up to m, after one more take
run_next : (passes : Bool) (n m : ℕ) → (if passes then min (min n m + 1) m else 0) ≡ min (cond passes (1 + n) 0) m
run_next true n m = omega arith
run_next false n m = omega arith

-- it is full where the run itself is as long
full_run : (n m : ℕ) → eqb (min n m) m ≡ leb m n
full_run n m = grind (arith, nat_tests)

module _ (s : SwingSettings) (rate : ℕ) (takes : List SwingTake) (old : Swing) (stands : StandsFor s rate takes old) where
  abbrev declared : List SwingTake → Bool
  declared = is_declared old.pass

  never_declared : old.age ≡ None → was_declared old.pass takes ≡ false
  never_declared is = none_is (was_declared old.pass takes) _ (sym is ∙ stands.age)

  module _ (t : SwingTake) (between : ℕ) (counted : between ≡ (if is_between t.place then min (old.between + 1) old.pass else 0)) where
    between_next : between ≡ min (between_run (t ∷ takes)) old.pass
    between_next = counted ∙ rw stands.between (run_next (is_between t.place) (between_run takes) old.pass)

    declared_now : eqb between old.pass ≡ declared (t ∷ takes)
    declared_now =
        rw between_next (full_run _ old.pass)
        ∙ sym (each_of_last-run old.pass (λ t. is_between t.place) (t ∷ takes))

    pub outside_next : is_within t.place ≡ false →
        StandsFor s rate (t ∷ takes) (record old { between = between; age = None })
    unfolding was_declared any_below
    outside_next out = record { pass = stands.pass; most = stands.most; between = between_next; age = rw out refl }

    module _ (within : is_within t.place ≡ true) where
      was_next : was_declared old.pass (t ∷ takes) ≡ (declared (t ∷ takes) || was_declared old.pass takes)
      unfolding was_declared any_below
      was_next = rw (within, one-add) refl

      first_more : was_declared old.pass takes ≡ true →
          first_declared old.pass (t ∷ takes) ≡ suc (first_declared old.pass takes)
      unfolding was_declared first_declared
      first_more was = rw (within, one-add) (greatest_below_more (run takes) (λ back. declared (drop back (t ∷ takes))) was)

      first_now : was_declared old.pass takes ≡ false → first_declared old.pass (t ∷ takes) ≡ 0
      unfolding was_declared first_declared
      first_now never =
          rw (within, one-add) (greatest_below_first (run takes) (λ back. declared (drop back (t ∷ takes))) never)

      pub aged_next : (age : ℕ) → old.age ≡ Some age →
          StandsFor s rate (t ∷ takes) (record old { between = between; age = Some (min (age + 1) old.most) })
      aged_next age is = record {
        pass = stands.pass;
        most = stands.most;
        between = between_next;
        age = rw (was_next, was.0, or_right (declared (t ∷ takes)) true refl, first_more was.0, was.1) (ap Some (omega arith));
      }
        where
          was : (was_declared old.pass takes ≡ true) × (age ≡ min (first_declared old.pass takes) old.most)
          was = some_is (was_declared old.pass takes) age _ (sym is ∙ stands.age)

      pub first_next : old.age ≡ None → between ≡ old.pass →
          StandsFor s rate (t ∷ takes) (record old { between = between; age = Some 0 })
      first_next is full = record {
        pass = stands.pass;
        most = stands.most;
        between = between_next;
        age = rw (was_next, ← declared_now, eq-eqb between old.pass full, first_now (never_declared is)) (ap Some (omega arith));
      }

      pub none_next : old.age ≡ None → between ≢ old.pass →
          StandsFor s rate (t ∷ takes) (record old { between = between })
      none_next is short = record {
        pass = stands.pass;
        most = stands.most;
        between = between_next;
        age = rw (was_next, ← declared_now, ne_eqb between old.pass short, never_declared is) is;
      }
