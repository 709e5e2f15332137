-- What a fuse holds after the takes since the last clear.
use Rattle.std.specs.Prelude.{ℕ, ◌≡◌, ◌-◌, List, drop}
use Rattle.sample_windows.specs.Below.{least_below}
use Rattle.relay_settings.specs.declared.types.FuseSettings.{FuseSettings}
use Rattle.relay_settings.specs.Times.{samples}
use Rattle.supervise.specs.Fusing.{FuseTake, suspect_now}
use Rattle.supervise.specs.declared.fuse.Fuse.{Fuse}

-- how many takes back the newest suspect one is, or `hold` where none is nearer
unfoldable pub suspect_back : ℕ → List FuseTake → ℕ
suspect_back hold takes = least_below hold (λ back. suspect_now (drop back takes))

-- the fuse after these takes, with these settings and so many samples a second
pub record StandsFor (s : FuseSettings) (rate : ℕ) (takes : List FuseTake) (fuse : Fuse) : Type 0 where
  pub hold : fuse.hold ≡ samples rate s.hold_ms
  pub left : fuse.left ≡ fuse.hold - suspect_back fuse.hold takes
