-- A moment of a configuration: a date of the proleptic Gregorian calendar, and a time of day in whole microseconds.
use Rattle.std.specs.Prelude.{ℕ, ◌<◌, ◌≤◌, ◌^◌, List, ◌++◌, codes, pos}
use Rattle.jiff_core.specs.Calendar.{days_in_month}
use Rattle.comtrade_read.specs.Numbers.{fixed}

-- a day of the years 1970 to 2106 that the calendar has
pub record IsDay (year month day : ℕ) : Type 0 where
  pub years : (1970 ≤ year) × (year ≤ 2106)
  pub months : (1 ≤ month) × (month ≤ 12)
  pub days : (1 ≤ day) × (day ≤ days_in_month (pos year) month)

-- a time of day below 24 hours
pub record IsClock (hour minute second micros : ℕ) : Type 0 where
  pub hours : hour < 24
  pub minutes : minute < 60
  pub seconds : second < 60
  pub parts : micros < 10 ^ 6

-- `dd/mm/yyyy`
abbrev pub day_text : ℕ → ℕ → ℕ → List ℕ
day_text year month day = fixed 2 day ++ codes "/" ++ fixed 2 month ++ codes "/" ++ fixed 4 year

-- `hh:mm:ss.uuuuuu`
abbrev pub clock_text : ℕ → ℕ → ℕ → ℕ → List ℕ
clock_text hour minute second micros = fixed 2 hour ++ codes ":" ++ fixed 2 minute ++ codes ":" ++ fixed 2 second ++ codes "." ++ fixed 6 micros

pub record Moment : Type 0 where
  pub year : ℕ
  pub month : ℕ
  pub day : ℕ
  pub hour : ℕ
  pub minute : ℕ
  pub second : ℕ
  pub micros : ℕ

pub record IsMoment (m : Moment) : Type 0 where
  pub date : IsDay m.year m.month m.day
  pub clock : IsClock m.hour m.minute m.second m.micros

-- `dd/mm/yyyy,hh:mm:ss.uuuuuu`
abbrev pub moment_text : Moment → List ℕ
moment_text m = day_text m.year m.month m.day ++ codes "," ++ clock_text m.hour m.minute m.second m.micros
