-- What a fuse holds after one more take.
use Rattle.std.proofs.Common.{◌≡◌, ℕ, zero, suc, ◌-◌, ltb, false, ◌&&◌, refl, sym, ap, ◌∙◌, arith, List, [], ◌∷◌, drop, inl, inr}
use Rattle.std.specs.Prelude.{if◌then◌else◌}
use Rattle.std.proofs.lemmas.Bool.{cases_Bool}
use Rattle.std.proofs.lemmas.Bool.Decides.{nat_tests}
use Rattle.sample_windows.specs.Below.{least_below}
use Rattle.sample_windows.proofs.BelowLemmas.{any_below-least, least_below_more, least_below_none}
use Rattle.supervise.specs.Fusing.{FuseTake, suspect_now, counts_as_blown}
use Rattle.supervise.specs.KeptFuse.{suspect_back}

pub suspect_back-none : (hold : ℕ) → hold - suspect_back hold [] ≡ 0
unfolding suspect_back
suspect_back-none hold = omega (arith, least_below_none hold (λ back. suspect_now (drop back [])) (λ k h. nothing k))
  where
    nothing : (k : ℕ) → suspect_now (drop k []) ≡ false
    nothing zero = refl
    nothing (suc k) = refl

-- what is left after one more take
left_next : (hold : ℕ) (t : FuseTake) (takes : List FuseTake) →
    hold - suspect_back hold (t ∷ takes)
    ≡ (if t.u2_high && t.i2_low then hold else (hold - suspect_back hold takes) - 1)
unfolding suspect_back least_below
left_next zero t takes = elim (cases_Bool (t.u2_high && t.i2_low)) [ inl e ↦ rw e refl | inr e ↦ rw e refl ]
left_next (suc hold) t takes = elim (cases_Bool (t.u2_high && t.i2_low)) [
  | inl e ↦ rw e (omega arith)
  | inr e ↦ rw e (omega (arith, least_below_more hold (λ k. suspect_now (drop k takes))))
]

pub left_is : (hold left : ℕ) (t : FuseTake) (takes : List FuseTake) (new : ℕ) →
    left ≡ hold - suspect_back hold takes → new ≡ (if t.u2_high && t.i2_low then hold else left - 1) → new ≡ hold - suspect_back hold (t ∷ takes)
left_is hold left t takes new before e = e ∙ rw before (sym (left_next hold t takes))

-- something is left where a take less than `hold` takes ago was suspect
pub blown_is : (hold : ℕ) (t : FuseTake) (takes : List FuseTake) →
    counts_as_blown hold (t ∷ takes) ≡ (t.i2_low && ltb 0 (hold - suspect_back hold (t ∷ takes)))
unfolding suspect_back counts_as_blown
blown_is hold t takes = ap (λ b. t.i2_low && b) (any_below-least hold _ ∙ some_left _ hold)
  where
    some_left : (least n : ℕ) → ltb least n ≡ ltb 0 (n - least)
    some_left least n = grind (arith, nat_tests)
