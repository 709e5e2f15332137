-- The time of a sample, and its text: the civil time of its second (proleptic Gregorian calendar, UTC) with nanoseconds.
use Rattle.std.specs.Prelude.{ℕ, zero, suc, pos, int_le, unsigned_abs, ◌-ℤ◌, ◌+◌, ◌*◌, ◌/◌, ◌%◌, ◌^◌, Bool, if◌then◌else◌, List, [], ◌∷◌, ◌++◌, codes}
use Rattle.jiff_core.specs.Calendar.{days_from_civil}
use Rattle.relay_settings.specs.declared.types.Common.{Common}
use Rattle.event_record.specs.declared.time.At.{At}

-- the second and the nanosecond of a sample number
abbrev pub time_of : Common → ℕ → At
time_of common number = record {
  number = number;
  seconds = (common.start + number / common.rate) % 2 ^ 32;
  nanos = number % common.rate * 1000000000 / common.rate;
}

-- the last number from first on, at most so many steps away, up to which each passes the test
abbrev pub last_that : (ℕ → Bool) → ℕ → ℕ → ℕ
last_that test zero first = first
last_that test (suc more) first = if test (suc first) then last_that test more (suc first) else first

-- the civil date of a day from 1970 to 2106: the last year, the last month and the day that have begun by then
unfoldable pub year_of : ℕ → ℕ
year_of day = last_that (λ y. int_le (days_from_civil (pos y) 1 1) (pos day)) 136 1970

unfoldable pub month_of : ℕ → ℕ
month_of day = last_that (λ m. int_le (days_from_civil (pos (year_of day)) m 1) (pos day)) 11 1

unfoldable pub day_of : ℕ → ℕ
day_of day = unsigned_abs (pos day -ℤ days_from_civil (pos (year_of day)) (month_of day) 1) + 1

-- so many decimal digits of a number
abbrev pub fixed : ℕ → ℕ → List ℕ
fixed zero n = []
fixed (suc k) n = fixed k (n / 10) ++ (48 + n % 10) ∷ []

-- `YYYY-MM-DD`
abbrev pub date_text : ℕ → ℕ → ℕ → List ℕ
date_text year month day = fixed 4 year ++ codes "-" ++ fixed 2 month ++ codes "-" ++ fixed 2 day

-- `hh:mm:ss` of a second of a day
abbrev pub clock_text : ℕ → List ℕ
clock_text s = fixed 2 (s / 3600) ++ codes ":" ++ fixed 2 (s / 60 % 60) ++ codes ":" ++ fixed 2 (s % 60)

-- `YYYY-MM-DDThh:mm:ss.nnnnnnnnnZ`
unfoldable pub time_text : ℕ → ℕ → List ℕ
time_text seconds nanos =
    date_text (year_of (seconds / 86400)) (month_of (seconds / 86400)) (day_of (seconds / 86400))
    ++ codes "T" ++ clock_text (seconds % 86400) ++ codes "." ++ fixed 9 nanos ++ codes "Z"
