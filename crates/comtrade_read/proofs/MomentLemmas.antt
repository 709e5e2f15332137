-- Parts of dates and times fit their digits.
use Rattle.std.proofs.Common.{◌≡◌, ℕ, ◌<◌, ◌^◌, ◌↔◌, Bool, true, false, IsTrue, arith, pos, List, ◌∷◌, ◌++◌, sym, ◌∙◌, ap}
use Rattle.jiff_core.proofs.CalendarLemmas.{days_in_month_bounds}
use Rattle.comtrade_read.specs.Moments.{IsDay, IsClock, Moment, IsMoment, day_text, clock_text, moment_text}

pub day_small : (year month day : ℕ) → IsDay year month day → (year < 10 ^ 4) × (month < 10 ^ 2) × (day < 10 ^ 2)
day_small year month day is = (omega (arith, is.years), omega (arith, is.months), omega (arith, is.days, days_in_month_bounds (pos year) month))

pub clock_small : (hour minute second micros : ℕ) → IsClock hour minute second micros → (hour < 10 ^ 2) × (minute < 10 ^ 2) × (second < 10 ^ 2) × (micros < 10 ^ 6)
clock_small hour minute second micros is = (omega (arith, is.hours), omega (arith, is.minutes), omega (arith, is.seconds), is.parts)

false_true : false ≡ true → ⊥
false_true e = cc

-- a test that tells a fact
pub told : {P : Type 0} (b : Bool) → b ≡ true → (IsTrue b ↔ P) → P
told b is tells = tells.0 is

pub refuted : {P : Type 0} (b : Bool) → b ≡ false → (IsTrue b ↔ P) → P → ⊥
refuted b is tells p = false_true (sym is ∙ tells.1 p)

pub moment_of : (text clock end left : List ℕ) → ((year month day : ℕ) × IsDay year month day × (text ≡ day_text year month day ++ 44 ∷ clock))
    → ((hour minute second micros : ℕ) × IsClock hour minute second micros × (clock ≡ clock_text hour minute second micros ++ 13 ∷ end)) → end ≡ 10 ∷ left
    → (m : Moment) × IsMoment m × (text ≡ moment_text m ++ 13 ∷ 10 ∷ left)
moment_of text clock end left (year, month, day, is_day, e) (hour, minute, second, micros, is_clock, f) g = (
  record { year = year; month = month; day = day; hour = hour; minute = minute; second = second; micros = micros },
  record { date = is_day; clock = is_clock },
  e ∙ ap (λ r. day_text year month day ++ 44 ∷ r) (f ∙ ap (λ r. clock_text hour minute second micros ++ 13 ∷ r) g),
)
