-- The very and the extremely inverse curves of IEC 60255-151, as a sum over samples: a constant current of M times the
-- pickup operates after t = TMS * k / (M^alpha - 1) seconds, with k = 13.5 and alpha = 1, or k = 80 and alpha = 2. Each
-- sample adds M^alpha - 1, and the sum of t seconds at the rate is TMS * k * rate. The summation is this project's own.
use Rattle.std.specs.Prelude.{ℕ, ◌-◌, ◌*◌, ◌≤◌, nat_le, Bool}
use Rattle.inverse_time.specs.declared.curve.Curve.{Curve}
use Rattle.inverse_time.specs.declared.curve.Curve.TheVariants.{Very, Extremely}
use Rattle.inverse_time.specs.declared.curve.Dial.{Dial}
use Rattle.inverse_time.specs.Multiples.{whole_root}

abbrev pub dial_of : Curve → ℕ → ℕ → Dial
dial_of curve pickup tms = record { curve = curve; pickup = pickup; tms = tms }

-- the pickup is in mA, and the time multiplier setting in thousandths
pub record IsDial (dial : Dial) : Type 0 where
  pub pickup_low : 1 ≤ dial.pickup
  pub pickup_high : dial.pickup ≤ 100000000
  pub tms_low : 25 ≤ dial.tms
  pub tms_high : dial.tms ≤ 1500

-- what a sample adds whose multiple has this square in millionths, of at least 1: M - 1 in thousandths, or M^2 - 1 in
-- millionths
abbrev pub excess_of : Curve → ℕ → ℕ
excess_of Very square = whole_root square - 1000
excess_of Extremely square = square - 1000000

-- whether a sum of these has come to TMS * k * rate, which is TMS / 1000 * 13.5 * rate in whole ones at the very inverse
-- curve, where the sum is in thousandths, and TMS / 1000 * 80 * rate at the other, where it is in millionths
abbrev pub is_enough : Curve → ℕ → ℕ → ℕ → Bool
is_enough Very tms rate sum = nat_le (27 * tms * rate) (2 * sum)
is_enough Extremely tms rate sum = nat_le (80000 * tms * rate) sum
