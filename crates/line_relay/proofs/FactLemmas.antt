-- What holds before the first sample.
use Rattle.std.proofs.Common.{◌≡◌, ◌≤◌, false, refl, [], Option, Some, None}
use Rattle.std.proofs.lemmas.Bool.{and_left}
use Rattle.relay_settings.specs.declared.types.Common.{Common}
use Rattle.relay_settings.specs.declared.types.SwingSettings.{SwingSettings}
use Rattle.relay_settings.specs.declared.types.FuseSettings.{FuseSettings}
use Rattle.relay_settings.specs.Settings.{PlainLine}
use Rattle.line_relay.specs.Guards.{is_swing_by, is_blown_by}
use Rattle.line_relay.specs.Facts.{facts_of}
use Rattle.line_relay.specs.Shown.{facts_shown, nothing}
use Rattle.line_relay.proofs.InsideLemmas.{zone_masks-none}
use Rattle.line_relay.proofs.NextLemmas.{ready_none, operates_none}

module _ (common : Common) (settings : PlainLine) (cycle : 2 ≤ common.n) where
  swing_none : (table : Option SwingSettings) → is_swing_by common settings table [] ≡ false
  swing_none None = refl
  swing_none (Some s) = and_left _ _ (and_left _ _ (and_left _ _ (ready_none common settings cycle)))

  blown_none : (table : Option FuseSettings) → is_blown_by common settings table [] ≡ false
  blown_none None = refl
  blown_none (Some s) = and_left _ _ (and_left _ _ (ready_none common settings cycle))

  pub facts_none : facts_shown nothing (facts_of common settings []).trip ≡ facts_of common settings []
  facts_none =
      rw (
        ready_none common settings cycle,
        swing_none settings.swing,
        blown_none settings.fuse,
        zone_masks-none _ (λ place lp h. operates_none common settings cycle place lp),
      ) refl
