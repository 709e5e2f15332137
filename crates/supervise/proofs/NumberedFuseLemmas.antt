-- The fuse of numbered samples is that of the takes since the last sample that wasn't ready.
use Rattle.std.proofs.Common.{◌≡◌, ℕ, suc, ◌+◌, Bool, true, false, ◌&&◌, refl, sym, ap, ap₂, ◌∙◌, arith, List, [], ◌∷◌, drop, inl, inr, le-leb}
use Rattle.std.proofs.lemmas.Bool.{cases_Bool, cases_eq, cases_lt, and_left, false≢true, lt-leb}
use Rattle.std.proofs.lemmas.List.{length-take}
use Rattle.std.proofs.Math.ListN.{drop_of_length-le}
use Rattle.sample_windows.specs.Numbered.{newest_number, Rises, run_of, of_run}
use Rattle.sample_windows.specs.Windows.{at_each}
use Rattle.sample_windows.proofs.BelowLemmas.{any_below_same}
use Rattle.sample_windows.proofs.NumberedLemmas.{up_to-in_run, held_for-run}
use Rattle.sample_windows.proofs.RunLemmas.{of_run-next, of_run-gap, of_run-none, of_run-drop}
use Rattle.relay_settings.specs.declared.types.FuseSettings.{FuseSettings}
use Rattle.relay_settings.specs.Times.{samples}
use Rattle.supervise.specs.Fusing.{FuseTake, suspect_now, low_now, counts_as_blown, is_blown}
use Rattle.supervise.specs.NumberedFuse.{is_suspect_at, suspect_from, counts_as_blown_at, is_blown_at, fuse_take}

module _ {X : Type 0} (number : X → ℕ) (ready u2_high i2_low : List X → Bool) (never : ready [] ≡ false) where
  abbrev said : List X → FuseTake
  said = fuse_take number ready u2_high i2_low

  abbrev taken : List X → List FuseTake
  taken past = of_run number ready said past

  abbrev suspect : List X → Bool
  suspect = is_suspect_at number ready u2_high i2_low

  newest_taken : (past : List X) →
      (suspect_now (taken past) ≡ suspect past) × (low_now (taken past) ≡ (ready past && i2_low past))
  newest_taken past = elim (cases_Bool (ready past)) [
    | inr e ↦ rw (of_run-none number ready said past e, e) (refl, refl)
    | inl e ↦ ready_taken past e
  ]
    where
      ready_taken : (past : List X) → ready past ≡ true →
          (suspect_now (taken past) ≡ suspect past) × (low_now (taken past) ≡ (ready past && i2_low past))
      ready_taken [] e = absurd (false≢true (sym never ∙ e))
      ready_taken (x ∷ older) e = elim (cases_eq (number x) (newest_number number older + 1)) [
        | inl next ↦ rw (of_run-next number ready said x older e next, e) (refl, refl)
        | inr gap ↦ rw (of_run-gap number ready said x older e gap, e) (refl, refl)
      ]

  module _ (past : List X) (r : Rises number past) where
    suspect_is : (back : ℕ) → suspect_from number ready u2_high i2_low past back ≡ suspect_now (drop back (taken past))
    suspect_is back = elim (cases_lt back (run_of number ready past)) [
      | inl in_run ↦
          ap₂ (λ a b. a && b)
          (held_for-run number ready never (suc back) past r ∙ le-leb (suc back) (run_of number ready past) in_run)
          (ap suspect (up_to-in_run number ready back past in_run)
          ∙ sym (newest_taken (drop back past)).0
          ∙ ap suspect_now (of_run-drop number ready said back past in_run))
      | inr out ↦
          (let few = length-take (run_of number ready past) (at_each said past) in
          and_left _ _
          (held_for-run number ready never (suc back) past r ∙ lt-leb (suc back) (run_of number ready past) (omega arith))
          ∙ sym (ap suspect_now (drop_of_length-le (taken past) (omega (arith, few)))))
    ]

    blown_is : (hold : ℕ) →
        counts_as_blown_at number ready u2_high i2_low hold past ≡ counts_as_blown hold (taken past)
    unfolding counts_as_blown
    blown_is hold =
        ap₂ (λ a b. a && b) (sym (newest_taken past).1)
        (any_below_same hold _ (λ back. suspect_now (drop back (taken past))) (λ back h. suspect_is back))

    -- the law
    pub is_blown_numbered : (s : FuseSettings) (rate : ℕ) →
        is_blown s rate (taken past) ≡ is_blown_at number ready u2_high i2_low s rate past
    is_blown_numbered s rate = sym (blown_is (samples rate s.hold_ms))
