-- The swing of numbered samples is that of the takes since the last sample that wasn't ready.
use Rattle.std.proofs.Common.{◌≡◌, ℕ, ◌+◌, ◌<◌, ltb, Bool, true, false, not, ◌&&◌, refl, sym, ap, ap₂, ◌∙◌, arith, List, [], ◌∷◌, drop, inl, inr}
use Rattle.std.proofs.lemmas.Bool.{cases_Bool, cases_eq, and_left, and_right, false≢true}
use Rattle.sample_windows.specs.Below.{any_below, greatest_below}
use Rattle.sample_windows.specs.Numbered.{newest_number, Rises, of_run}
use Rattle.sample_windows.proofs.BelowLemmas.{any_below_same, greatest_below_same}
use Rattle.sample_windows.proofs.RunLemmas.{of_run-next, of_run-gap, of_run-none, run_of-within, run_of-within-le, held_for-within}
use Rattle.relay_settings.specs.declared.types.SwingSettings.{SwingSettings}
use Rattle.relay_settings.specs.Times.{samples}
use Rattle.swing_block.specs.declared.blinders.SwingPlace.{SwingPlace}
use Rattle.swing_block.specs.Swinging.{SwingTake, is_between, is_within, is_declared, was_declared, first_declared, unbalanced_now, blocks, is_swing}
use Rattle.swing_block.specs.NumberedSwing.{run_at, declared_at, blocks_at, is_swing_at, swing_take}

-- a ready sample's three facts in the other order
turned : (a b c d : Bool) → b ≡ a → (((true && not a) && c) && d) ≡ ((c && d) && not b)
turned true b c d e = rw e (sym (and_right (c && d) false refl))
turned false b true true e = rw e refl
turned false b true false e = refl
turned false b false d e = refl

module _ {X : Type 0} (number : X → ℕ) (ready unbalanced : List X → Bool) (place : List X → SwingPlace) (never : ready [] ≡ false) where
  abbrev said : List X → SwingTake
  said = swing_take number ready unbalanced place

  abbrev taken : List X → List SwingTake
  taken past = of_run number ready said past

  abbrev run : List X → ℕ
  run = run_at number ready unbalanced place

  abbrev declared : ℕ → List X → ℕ → Bool
  declared = declared_at number ready unbalanced place

  newest_taken : (past : List X) → ready past ≡ true → unbalanced_now (taken past) ≡ unbalanced past
  newest_taken [] e = absurd (false≢true (sym never ∙ e))
  newest_taken (x ∷ older) e = elim (cases_eq (number x) (newest_number number older + 1)) [
    | inl next ↦ rw (of_run-next number ready said x older e next) refl
    | inr gap ↦ rw (of_run-gap number ready said x older e gap) refl
  ]

  module _ (past : List X) (r : Rises number past) where
    declared_is : (pass back : ℕ) → back < run past → declared pass past back ≡ is_declared pass (drop back (taken past))
    declared_is pass back h =
        held_for-within number ready said (λ t. is_between t.place) pass back past never r
        (omega (arith, run_of-within-le number ready said (λ t. is_within t.place) past, h))

    was_is : (pass : ℕ) → any_below (run past) (declared pass past) ≡ was_declared pass (taken past)
    unfolding was_declared
    was_is pass =
        any_below_same _ _ (λ back. is_declared pass (drop back (taken past))) (declared_is pass)
        ∙ ap (λ n. any_below n (λ back. is_declared pass (drop back (taken past))))
        (run_of-within number ready said (λ t. is_within t.place) past)

    first_is : (pass : ℕ) → greatest_below (run past) (declared pass past) ≡ first_declared pass (taken past)
    unfolding first_declared
    first_is pass =
        greatest_below_same _ _ (λ back. is_declared pass (drop back (taken past))) (declared_is pass)
        ∙ ap (λ n. greatest_below n (λ back. is_declared pass (drop back (taken past))))
        (run_of-within number ready said (λ t. is_within t.place) past)

    none_taken : (pass : ℕ) → ready past ≡ false → was_declared pass (taken past) ≡ false
    unfolding was_declared any_below
    none_taken pass e = rw (of_run-none number ready said past e) refl

    blocks_is : (pass most : ℕ) → blocks_at number ready unbalanced place pass most past ≡ blocks pass most (taken past)
    blocks_is pass most = elim (cases_Bool (ready past)) [
      | inr e ↦
          and_left _ _ (and_left _ _ (and_left _ _ e))
          ∙ sym (and_left _ _ (and_left _ _ (none_taken pass e)))
      | inl e ↦
          ap₂ (λ a b. a && b)
          (ap₂ (λ a b. (a && not (unbalanced past)) && b) e (was_is pass))
          (ap (λ n. ltb n most) (first_is pass))
          ∙ turned (unbalanced past) (unbalanced_now (taken past)) (was_declared pass (taken past))
          (ltb (first_declared pass (taken past)) most) (newest_taken past e)
    ]

    -- the law
    pub is_swing_numbered : (s : SwingSettings) (rate : ℕ) →
        is_swing s rate (taken past) ≡ is_swing_at number ready unbalanced place s rate past
    is_swing_numbered s rate = sym (blocks_is (samples rate s.pass_ms) (samples rate s.max_ms))
