-- What guards the zones at a ready sample: the polarising voltage, which is remembered, a power swing, and a blown fuse. Each
-- looks back over the samples, the newest first, by their numbers.
use Rattle.std.specs.Prelude.{ℕ, Bool, false, not, List, Option, Some, None}
use Rattle.relay_num.specs.declared.Cx.{Cx}
use Rattle.relay_num.specs.Numbers.{is_at_least}
use Rattle.relay_settings.specs.declared.types.Common.{Common}
use Rattle.relay_settings.specs.declared.types.SwingSettings.{SwingSettings}
use Rattle.relay_settings.specs.declared.types.FuseSettings.{FuseSettings}
use Rattle.relay_settings.specs.Settings.{PlainLine}
use Rattle.relay_settings.specs.Times.{samples}
use Rattle.memory_volt.specs.NumberedPolarising.{polarising_at as voltage_that_polarises}
use Rattle.swing_block.specs.NumberedSwing.{is_swing_at as swings_at}
use Rattle.swing_block.specs.Blinders.{place_of, is_unbalanced}
use Rattle.swing_block.specs.declared.blinders.SwingPlace.{SwingPlace}
use Rattle.supervise.specs.NumberedFuse.{is_blown_at as blown_at}
use Rattle.line_relay.specs.declared.measured.Measured.{Measured}
use Rattle.line_relay.specs.LineSamples.{Numbered, number_of_sample, is_ready}
use Rattle.line_relay.specs.Phasors.{phasor_of, eight}
use Rattle.line_relay.specs.Measured.{measured}

-- 3U1 is too low to polarise from
abbrev pub is_low : ℕ → PlainLine → Measured → Bool
is_low n settings m = not (is_at_least m.voltage.plus n settings.mem_u)

-- where the impedance lies among the blinders, and whether 3I2 is too large for a swing
abbrev pub swing_place : SwingSettings → Measured → SwingPlace
swing_place s m = place_of s m.voltage.plus m.current.plus

abbrev pub is_unbalanced_at : SwingSettings → Measured → Bool
is_unbalanced_at s m = is_unbalanced s m.current.plus m.current.minus

-- 3U2 is there, and 3I2 isn't
abbrev pub has_negative_voltage : ℕ → FuseSettings → Measured → Bool
has_negative_voltage n s m = is_at_least m.voltage.minus n s.u2_min

abbrev pub has_no_negative_current : ℕ → FuseSettings → Measured → Bool
has_no_negative_current n s m = not (is_at_least m.current.minus n s.i2_max)

module _ (common : Common) (settings : PlainLine) where
  abbrev pub is_ready_at : List Numbered → Bool
  is_ready_at past = is_ready common.n settings.mimic past

  -- what is formed of the phasors at the newest sample
  unfoldable pub measured_at : List Numbered → Measured
  measured_at past = measured (eight (phasor_of common.n settings.mimic past))

  abbrev pub is_low_at : List Numbered → Bool
  is_low_at past = is_low common.n settings (measured_at past)

  abbrev pub plus_voltage_at : List Numbered → Cx
  plus_voltage_at past = (measured_at past).voltage.plus

  -- the polarising voltage: 3U1, or the remembered one where that is low
  abbrev pub polarising_at : List Numbered → Option Cx
  polarising_at past = voltage_that_polarises number_of_sample is_ready_at is_low_at plus_voltage_at common.n (samples common.rate settings.mem_ms) past

  -- a power swing; never without its table
  abbrev pub is_swing_by : Option SwingSettings → List Numbered → Bool
  is_swing_by None past = false
  is_swing_by (Some s) past =
      swings_at number_of_sample is_ready_at (λ p. is_unbalanced_at s (measured_at p)) (λ p. swing_place s (measured_at p)) s common.rate past

  abbrev pub is_swing_at : List Numbered → Bool
  is_swing_at past = is_swing_by settings.swing past

  -- a blown fuse of the voltage transformer; never without its table
  abbrev pub is_blown_by : Option FuseSettings → List Numbered → Bool
  is_blown_by None past = false
  is_blown_by (Some s) past =
      blown_at number_of_sample is_ready_at (λ p. has_negative_voltage common.n s (measured_at p)) (λ p. has_no_negative_current common.n s (measured_at p)) s common.rate past

  abbrev pub is_blown_at : List Numbered → Bool
  is_blown_at past = is_blown_by settings.fuse past
