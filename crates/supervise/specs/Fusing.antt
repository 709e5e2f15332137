-- Blocking by a blown fuse of the voltage transformer (Phadke and Thorp, Computer Relaying for Power Systems), over the
-- takes since the last clear, the newest first. A take is one ready sample.
use Rattle.std.specs.Prelude.{ℕ, Bool, false, ◌&&◌, List, [], ◌∷◌, drop}
use Rattle.sample_windows.specs.Below.{any_below}
use Rattle.relay_settings.specs.declared.types.FuseSettings.{FuseSettings}
use Rattle.relay_settings.specs.Times.{samples}

-- what a take says: whether the voltage has negative sequence, and whether the current has none
pub record FuseTake : Type 0 where
  pub u2_high : Bool
  pub i2_low : Bool

abbrev pub take_of : Bool → Bool → FuseTake
take_of u2_high i2_low = record { u2_high = u2_high; i2_low = i2_low }

-- whether the newest take is suspect
abbrev pub suspect_now : List FuseTake → Bool
suspect_now [] = false
suspect_now (t ∷ older) = t.u2_high && t.i2_low

abbrev pub low_now : List FuseTake → Bool
low_now [] = false
low_now (t ∷ older) = t.i2_low

-- The fuse counts as blown at the newest take where the current has no negative sequence there, and a take less than
-- `hold` takes ago was suspect.
unfoldable pub counts_as_blown : ℕ → List FuseTake → Bool
counts_as_blown hold takes = low_now takes && any_below hold (λ back. suspect_now (drop back takes))

-- the same by the settings, at so many samples a second
abbrev pub is_blown : FuseSettings → ℕ → List FuseTake → Bool
is_blown s rate takes = counts_as_blown (samples rate s.hold_ms) takes
