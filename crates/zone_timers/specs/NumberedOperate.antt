-- Delayed operation over numbered samples, the newest first, whose numbers may have gaps. Whether a zone sees the fault
-- in a loop is a fact of the samples up to one, said of that one.
use Rattle.std.specs.Prelude.{ℕ, ◌≡◌, ◌≢◌, ◌+◌, Bool, false, List, [], ◌∷◌}
use Rattle.sample_windows.specs.Windows.{at_each}
use Rattle.sample_windows.specs.Numbered.{Rises, held_for}
use Rattle.zone_timers.specs.ZoneMasks.{zone_masks}
use Rattle.zone_timers.specs.Operate.{delay_of, operated_masks}

module _ {X : Type 0} (number : X → ℕ) (inside : ℕ → ℕ → List X → Bool) where
  -- whether the loop was inside at the newest number and at the last numbers before it, as many as its delay
  abbrev pub operates_at : List ℕ → List ℕ → ℕ → ℕ → List X → Bool
  operates_at ground_delays phase_delays zone lp samples = held_for number (delay_of ground_delays phase_delays zone lp + 1) (inside zone lp) samples

  -- the masks of the loops that are inside, and of those that operate
  abbrev pub inside_masks : List X → List ℕ
  inside_masks samples = zone_masks (λ zone lp. inside zone lp samples)

  abbrev pub operates_masks : List ℕ → List ℕ → List X → List ℕ
  operates_masks ground_delays phase_delays samples = zone_masks (λ zone lp. operates_at ground_delays phase_delays zone lp samples)

-- The law: where a loop is inside at no sample that follows a gap, and of no samples, timers that have taken the masks
-- of the loops inside at each sample answer the rule over numbers.
abbrev pub OperatesByNumber : Type 0 → Type 0
OperatesByNumber X =
    (number : X → ℕ) (inside : ℕ → ℕ → List X → Bool) (ground_delays phase_delays : List ℕ) (samples : List X) →
    ((zone lp : ℕ) → inside zone lp [] ≡ false) →
    ((zone lp : ℕ) (x y : X) (older : List X) → Rises number (x ∷ y ∷ older) → number x ≢ number y + 1 →
    inside zone lp (x ∷ y ∷ older) ≡ false) →
    Rises number samples →
    operated_masks ground_delays phase_delays (at_each (inside_masks number inside) samples)
    ≡ operates_masks number inside ground_delays phase_delays samples
