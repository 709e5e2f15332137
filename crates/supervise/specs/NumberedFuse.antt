-- Blocking by a blown fuse over numbered samples, the newest first, whose numbers may have gaps. Each fact is of the
-- samples up to one of them; a fuse takes the samples of the run of ready ones that ends at the newest.
use Rattle.std.specs.Prelude.{ℕ, ◌≡◌, suc, ◌-◌, Bool, false, ◌&&◌, List, []}
use Rattle.sample_windows.specs.Below.{any_below}
use Rattle.sample_windows.specs.Numbered.{newest_number, up_to, Rises, held_for, of_run}
use Rattle.relay_settings.specs.declared.types.FuseSettings.{FuseSettings}
use Rattle.relay_settings.specs.Times.{samples}
use Rattle.supervise.specs.Fusing.{FuseTake, take_of, is_blown}

module _ {X : Type 0} (number : X → ℕ) (ready u2_high i2_low : List X → Bool) where
  abbrev pub is_suspect_at : List X → Bool
  is_suspect_at past = ready past && (u2_high past && i2_low past)

  -- whether the samples from so many numbers back on are all ready, and the first of them suspect
  abbrev pub suspect_from : List X → ℕ → Bool
  suspect_from past back =
      held_for number (suc back) ready past && is_suspect_at (up_to number (newest_number number past - back) past)

  abbrev pub counts_as_blown_at : ℕ → List X → Bool
  counts_as_blown_at hold past = (ready past && i2_low past) && any_below hold (suspect_from past)

  -- the same by the settings, at so many samples a second
  abbrev pub is_blown_at : FuseSettings → ℕ → List X → Bool
  is_blown_at s rate past = counts_as_blown_at (samples rate s.hold_ms) past

  -- what a fuse takes at the newest sample
  abbrev pub fuse_take : List X → FuseTake
  fuse_take past = take_of (u2_high past) (i2_low past)

-- The law: a fuse that takes each ready sample and is cleared at any other answers the rule over numbers. Of no
-- samples, none is ready.
abbrev pub BlowsByNumber : Type 0 → Type 0
BlowsByNumber X =
    (number : X → ℕ) (ready u2_high i2_low : List X → Bool) (s : FuseSettings) (rate : ℕ) (past : List X) →
    ready [] ≡ false → Rises number past →
    is_blown s rate (of_run number ready (fuse_take number ready u2_high i2_low) past)
    ≡ is_blown_at number ready u2_high i2_low s rate past
