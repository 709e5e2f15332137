-- The form of a start time, and the second since 1970 that it names.
use Rattle.std.specs.Prelude.{ℕ, pos, ◌+◌, ◌-◌, ◌*◌, nat_le, Bool, ◌&&◌, ◌==◌, if◌then◌else◌, unsigned_abs, List, length, slice_index, Option, option_map, option_and_then, Some, None, codes}
use Rattle.std.specs.List.{list_all, zip}
use Rattle.jiff_core.specs.Calendar.{days_from_civil, days_in_month}

-- the byte is a decimal digit, and its value
abbrev pub is_digit : ℕ → Bool
is_digit b = nat_le 48 b && nat_le b 57

-- two digits from a place on
abbrev pub two : List ℕ → ℕ → ℕ
two text at = (slice_index text at - 48) * 10 + (slice_index text (at + 1) - 48)

-- a digit where the form has `0`, and the form's own byte elsewhere
abbrev pub fits : ℕ × ℕ → Bool
fits p = if p.0 == 48 then is_digit p.1 else (p.0 == p.1)

-- `YYYY-MM-DDThh:mm:ssZ`
abbrev pub form : List ℕ
form = codes "0000-00-00T00:00:00Z"

abbrev pub has_form : List ℕ → Bool
has_form text = (length text == 20) && list_all fits (zip form text)

-- the days from 1970 to a day of the years 1970 to 2099, if the calendar has it
abbrev pub day_of : ℕ → ℕ → ℕ → Option ℕ
day_of year month day =
    if (nat_le 1970 year && nat_le year 2099) && (nat_le 1 month && nat_le month 12) && (nat_le 1 day && nat_le day (days_in_month (pos year) month))
    then Some (unsigned_abs (days_from_civil (pos year) month day))
    else None

-- the seconds from midnight to a time of the clock, if there is one
abbrev pub clock_of : ℕ → ℕ → ℕ → Option ℕ
clock_of hour minute second =
    if nat_le hour 23 && nat_le minute 59 && nat_le second 59
    then Some (hour * 3600 + minute * 60 + second)
    else None

unfoldable pub second_of_text : List ℕ → Option ℕ
second_of_text text =
    if has_form text
    then option_and_then (λ day. option_map (λ second. day * 86400 + second) (clock_of (two text 11) (two text 14) (two text 17)))
    (day_of (two text 0 * 100 + two text 2) (two text 5) (two text 8))
    else None
