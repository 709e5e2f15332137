-- The direction of a loop by the sign of a torque (Phadke and Thorp, Computer Relaying for Power Systems): of the
-- negative sequence, or of the loop against its polarising voltage.
use Rattle.std.specs.Prelude.{ℤ, pos, Bool, if◌then◌else◌, Option, Some, None}
use Rattle.std.specs.Int.RustNames.{int_lt}
use Rattle.relay_num.specs.declared.Cx.{Cx}
use Rattle.relay_num.specs.Numbers.{product, conjugate}
use Rattle.direction.specs.declared.Sense.{Sense}
use Rattle.direction.specs.declared.Sense.TheVariants.{Forward, Reverse, Neither}

-- Re(3U2 conj(ZL 3I2)): below 0 at a fault ahead, where the source behind the relay makes 3U2 = -ZS 3I2
abbrev pub negative_torque : Cx → Cx → Cx → ℤ
negative_torque zl u2 i2 = (product u2 (conjugate (product zl i2))).re

-- Re(ZL I conj(P)): above 0 at a fault ahead, where the current lags the polarising voltage by the line's angle
abbrev pub polarised_torque : Cx → Cx → Cx → ℤ
polarised_torque zl i p = (product (product zl i) (conjugate p)).re

-- the first that holds
abbrev pub side : Bool → Bool → Sense
side ahead behind = if ahead then Forward else if behind then Reverse else Neither

abbrev pub sense_by_negative : Cx → Cx → Cx → Sense
sense_by_negative zl u2 i2 = side (int_lt (negative_torque zl u2 i2) (pos 0)) (int_lt (pos 0) (negative_torque zl u2 i2))

abbrev pub sense_by_polarising : Cx → Cx → Cx → Sense
sense_by_polarising zl i p = side (int_lt (pos 0) (polarised_torque zl i p)) (int_lt (polarised_torque zl i p) (pos 0))

-- by 3U2 and 3I2 where they are given, else by the polarising voltage, and neither where there is none
abbrev pub direction_of : Cx → Cx → Option Cx → Option (Cx × Cx) → Sense
direction_of zl i pol (Some m) = sense_by_negative zl m.0 m.1
direction_of zl i (Some p) None = sense_by_polarising zl i p
direction_of zl i None None = Neither
