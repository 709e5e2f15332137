-- The moments of a record are of the grammar: a day that the calendar has, and a time of day.
use Rattle.std.proofs.Common.{if◌then◌else◌, ◌≡◌, ℕ, zero, suc, ◌+◌, ◌<◌, ◌≤◌, Bool, true, false, inl, inr, refl, arith, ℤ, pos, int_le, ◌-ℤ◌, ◌≤ℤ◌, ◌<ℤ◌}
use Rattle.std.proofs.lemmas.Bool.{cases_lt}
use Rattle.std.proofs.lemmas.Int.{ints}
use Rattle.jiff_core.specs.Calendar.{day_count, days_from_civil, days_in_month, days_in_year}
use Rattle.jiff_core.proofs.SignedLemmas.{signed_arith, one_part}
use Rattle.jiff_core.proofs.MarchLemmas.{day_count-early}
use Rattle.jiff_core.proofs.CalendarLemmas.{days_from_civil-day_count, day_count-epoch, day_count-next_year, day_count-next_month, day_count-last_of_year, day_count-day}
use Rattle.event_record.specs.Time.{last_that, year_of, month_of, day_of}
use Rattle.comtrade_read.specs.Moments.{IsDay}

-- the last number that passes: it is in its range and passes, and the next does not, or is too far
record IsLast (test : ℕ → Bool) (more first last : ℕ) : Type 0 where
  low : first ≤ last
  high : last ≤ first + more
  passes : test last ≡ true
  fails : last < first + more → test (suc last) ≡ false

last_step : (test : ℕ → Bool) (more first : ℕ) → test first ≡ true → (test (suc first) ≡ true → IsLast test more (suc first) (last_that test more (suc first)))
    → (b : Bool) → test (suc first) ≡ b → IsLast test (suc more) first (if b then last_that test more (suc first) else first)
last_step test more first here after true is =
    let later = after is in
    record { low = omega (arith, later.low); high = omega (arith, later.high); passes = later.passes; fails = λ lt. later.fails (omega (arith, lt)) }
last_step test more first here after false is = record { low = omega arith; high = omega arith; passes = here; fails = λ lt. is }

last_is : (test : ℕ → Bool) (more first : ℕ) → test first ≡ true → IsLast test more first (last_that test more first)
last_is test zero first here = record { low = omega arith; high = omega arith; passes = here; fails = λ lt. absurd (omega arith) }
last_is test (suc more) first here = last_step test more first here (λ is. last_is test more (suc first) is) (test (suc first)) refl

-- what the tests mean, by the days since the year -10000
begun : (y : ℤ) (m day : ℕ) → int_le (days_from_civil y m 1) (pos day) ≡ true → day_count y m 1 ≤ day + 4_371_953
begun y m day h =
    let le : days_from_civil y m 1 ≤ℤ pos day = grind (arith, ints) in
    omega (arith, signed_arith, days_from_civil-day_count y m 1)

not_begun : (y : ℤ) (m day : ℕ) → int_le (days_from_civil y m 1) (pos day) ≡ false → day + 4_371_953 < day_count y m 1
not_begun y m day h =
    let lt : pos day <ℤ days_from_civil y m 1 = grind (arith, ints) in
    omega (arith, signed_arith, days_from_civil-day_count y m 1)

has_begun : (y : ℤ) (m day : ℕ) → day_count y m 1 ≤ day + 4_371_953 → int_le (days_from_civil y m 1) (pos day) ≡ true
has_begun y m day h =
    let le : days_from_civil y m 1 ≤ℤ pos day = omega (arith, signed_arith, days_from_civil-day_count y m 1) in
    grind (arith, ints)

day_count-2107 : day_count (pos 2107) 1 1 ≡ 4_421_991
day_count-2107 = day_count-early (pos 2107) 12106 1 1 refl (omega arith) (omega arith) (omega arith)

module _ (day : ℕ) (early : day ≤ 49710) where
  year : IsLast (λ y. int_le (days_from_civil (pos y) 1 1) (pos day)) 136 1970 (year_of day)
  unfolding year_of
  year = last_is (λ y. int_le (days_from_civil (pos y) 1 1) (pos day)) 136 1970 (has_begun (pos 1970) 1 day (omega (arith, day_count-epoch)))

  year-begun : day_count (pos (year_of day)) 1 1 ≤ day + 4_371_953
  year-begun = begun (pos (year_of day)) 1 day year.passes

  next : day + 4_371_953 < day_count (pos (suc (year_of day))) 1 1
  next = elim (cases_lt (year_of day) 2106) [
    | inl lt ↦ not_begun (pos (suc (year_of day))) 1 day (year.fails (omega arith))
    | inr ge ↦
        let same : suc (year_of day) ≡ 2107 = omega (arith, year.high) in
        rw same (omega (arith, day_count-2107))
  ]

  year-ends : day + 4_371_953 < day_count (pos (year_of day)) 1 1 + days_in_year (pos (year_of day))
  year-ends = omega (arith, next, day_count-next_year (pos (year_of day)) (pos (suc (year_of day))) (omega (arith, signed_arith)) (omega (arith, signed_arith)))

  month : IsLast (λ m. int_le (days_from_civil (pos (year_of day)) m 1) (pos day)) 11 1 (month_of day)
  unfolding month_of
  month = last_is (λ m. int_le (days_from_civil (pos (year_of day)) m 1) (pos day)) 11 1 (has_begun (pos (year_of day)) 1 day year-begun)

  month-begun : day_count (pos (year_of day)) (month_of day) 1 ≤ day + 4_371_953
  month-begun = begun (pos (year_of day)) (month_of day) day month.passes

  month-ends : day + 4_371_953 < day_count (pos (year_of day)) (month_of day) 1 + days_in_month (pos (year_of day)) (month_of day)
  month-ends = elim (cases_lt (month_of day) 12) [
    | inl lt ↦
        let after : day + 4_371_953 < day_count (pos (year_of day)) (suc (month_of day)) 1 = not_begun (pos (year_of day)) (suc (month_of day)) day (month.fails (omega arith)) in
        let same : suc (month_of day) ≡ month_of day + 1 = omega arith in
        omega (arith, rw same at after, day_count-next_month (pos (year_of day)) (month_of day) month.low)
    | inr ge ↦
        let same : month_of day ≡ 12 = omega (arith, month.high) in
        rw same (omega (arith, year-ends, day_count-last_of_year (pos (year_of day)), day_count-day (pos (year_of day)) 12 31 1 (omega arith) (omega arith)))
  ]

  day-is : day_of day + day_count (pos (year_of day)) (month_of day) 1 ≡ day + 4_371_953 + 1
  unfolding day_of
  day-is = omega (arith, signed_arith, month-begun, days_from_civil-day_count (pos (year_of day)) (month_of day) 1, one_part (pos day -ℤ days_from_civil (pos (year_of day)) (month_of day) 1))

  pub is_day : IsDay (year_of day) (month_of day) (day_of day)
  is_day = record {
    years = (year.low, omega (arith, year.high));
    months = (month.low, omega (arith, month.high));
    days = (omega (arith, day-is, month-begun), omega (arith, day-is, month-ends));
  }
