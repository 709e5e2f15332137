-- Masks of six loops.
use Rattle.std.proofs.Common.{◌≡◌, ℕ, ◌<◌, Bool, false, refl, arith, [], ◌∷◌}
use Rattle.loop_impedance.specs.Masks.{mask, loop_mask}

module _ (f : ℕ → Bool) where
  -- six bits, the lowest first
  pub mask_six : (a b c d e g : Bool) → a ≡ f 0 → b ≡ f 1 → c ≡ f 2 → d ≡ f 3 → e ≡ f 4 → g ≡ f 5 →
      mask (a ∷ b ∷ c ∷ d ∷ e ∷ g ∷ []) ≡ loop_mask f
  mask_six a b c d e g p q r s t u = rw (p, q, r, s, t, u) refl

  pub loop_mask-none : ((lp : ℕ) → lp < 6 → f lp ≡ false) → loop_mask f ≡ 0
  loop_mask-none none =
      rw (none 0 (omega arith), none 1 (omega arith), none 2 (omega arith), none 3 (omega arith), none 4 (omega arith), none 5 (omega arith)) refl
