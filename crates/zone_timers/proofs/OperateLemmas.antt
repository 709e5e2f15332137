-- Timers over numbered samples: a window of takes is a window of numbers.
use Rattle.std.proofs.Common.{◌≡◌, ◌≢◌, ℕ, suc, zero, ◌+◌, ◌<◌, Bool, false, refl, sym, arith, List, [], ◌∷◌, length, get_or}
use Rattle.sample_windows.specs.Windows.{at_each}
use Rattle.sample_windows.specs.Numbered.{Rises}
use Rattle.sample_windows.proofs.NumberedLemmas.{held_for-at_each}
use Rattle.loop_impedance.specs.Masks.{loop_mask}
use Rattle.loop_impedance.proofs.MaskLemmas.{has_bit-loop_mask, loop_mask-same}
use Rattle.zone_timers.specs.ZoneMasks.{has_loop, zone_masks}
use Rattle.zone_timers.specs.Operate.{delay_of, operates, operated_masks}
use Rattle.zone_timers.specs.NumberedOperate.{operates_at, inside_masks, operates_masks}

-- the masks of two tests that agree
pub zone_masks-same : (s t : ℕ → ℕ → Bool) → ((zone lp : ℕ) → zone < 5 → lp < 6 → s zone lp ≡ t zone lp) → zone_masks s ≡ zone_masks t
zone_masks-same s t same =
    let zone_is : (zone : ℕ) → zone < 5 → loop_mask (s zone) ≡ loop_mask (t zone) = λ zone h. loop_mask-same (s zone) (t zone) (λ lp l. same zone lp h l) in
    rw (zone_is 0 (omega arith), zone_is 1 (omega arith), zone_is 2 (omega arith), zone_is 3 (omega arith), zone_is 4 (omega arith)) refl

-- a list of five masks, zone by zone
pub masks_of_five : (masks : List ℕ) (test : ℕ → ℕ → Bool) → length masks ≡ 5 → ((zone : ℕ) → zone < 5 → get_or masks zone 0 ≡ loop_mask (test zone)) → masks ≡ zone_masks test
masks_of_five (a ∷ b ∷ c ∷ d ∷ e ∷ []) test long each =
    rw (← each 0 (omega arith), ← each 1 (omega arith), ← each 2 (omega arith), ← each 3 (omega arith), ← each 4 (omega arith)) refl
masks_of_five [] test long each = absurd (omega arith)
masks_of_five (a ∷ []) test long each = absurd (omega arith)
masks_of_five (a ∷ b ∷ []) test long each = absurd (omega arith)
masks_of_five (a ∷ b ∷ c ∷ []) test long each = absurd (omega arith)
masks_of_five (a ∷ b ∷ c ∷ d ∷ []) test long each = absurd (omega arith)
masks_of_five (a ∷ b ∷ c ∷ d ∷ e ∷ f ∷ more) test long each = absurd (omega arith)

-- the bits of the masks of a test
pub has_loop-zone_masks : (test : ℕ → ℕ → Bool) (zone lp : ℕ) → zone < 5 → lp < 6 → has_loop zone lp (zone_masks test) ≡ test zone lp
has_loop-zone_masks test zero lp h l = has_bit-loop_mask (test 0) lp l
has_loop-zone_masks test (suc zero) lp h l = has_bit-loop_mask (test 1) lp l
has_loop-zone_masks test (suc (suc zero)) lp h l = has_bit-loop_mask (test 2) lp l
has_loop-zone_masks test (suc (suc (suc zero))) lp h l = has_bit-loop_mask (test 3) lp l
has_loop-zone_masks test (suc (suc (suc (suc zero)))) lp h l = has_bit-loop_mask (test 4) lp l
has_loop-zone_masks test (suc (suc (suc (suc (suc n))))) lp h l = absurd (omega arith)

module _ {X : Type 0} (number : X → ℕ) (inside : ℕ → ℕ → List X → Bool) (ground_delays phase_delays : List ℕ) (samples : List X)
    (never : (zone lp : ℕ) → inside zone lp [] ≡ false)
    (breaks : (zone lp : ℕ) (x y : X) (older : List X) → Rises number (x ∷ y ∷ older) → number x ≢ number y + 1 → inside zone lp (x ∷ y ∷ older) ≡ false)
    (rises : Rises number samples) where
  -- one loop of one zone
  pub operates_is : (zone lp : ℕ) → zone < 5 → lp < 6 →
      operates ground_delays phase_delays zone lp (at_each (inside_masks number inside) samples)
      ≡ operates_at number inside ground_delays phase_delays zone lp samples
  operates_is zone lp h l =
      sym (held_for-at_each number (inside zone lp) (inside_masks number inside) (has_loop zone lp)
      (λ s. has_loop-zone_masks (λ zone lp. inside zone lp s) zone lp h l) (breaks zone lp)
      (delay_of ground_delays phase_delays zone lp + 1) samples (never zone lp) rises)

  -- the law
  pub operates_numbered :
      operated_masks ground_delays phase_delays (at_each (inside_masks number inside) samples)
      ≡ operates_masks number inside ground_delays phase_delays samples
  operates_numbered = zone_masks-same _ _ (λ zone lp h l. operates_is zone lp h l)
