-- The day numbers of the years 1970 to 2099.
use Rattle.std.proofs.Common.{◌≡◌, ◌≤◌, ℕ, refl, ◌∙◌, arith, ℤ, pos, FitsSigned, w16, w32, to_z, of_z, ◌≤ℤ◌}
use Rattle.std.proofs.lemmas.Int.{by_lt_z, to_z-of_z, to_z_pos}
use Rattle.jiff_core.specs.declared.civil.date.Date.{Date}
use Rattle.jiff_core.specs.Calendar.{day_count}
use Rattle.jiff_core.specs.Date.{epoch_day}
use Rattle.jiff_core.proofs.SignedLemmas.{signed_arith}
use Rattle.jiff_core.proofs.MarchLemmas.{day_count-early}
use Rattle.jiff_core.proofs.DateLemmas.{civil}
use Rattle.jiff_core.proofs.CalendarLemmas.{days_from_civil-day_count, day_count-epoch, day_count-lt_year, day_count-later_year, day_count-day_of_year}

day_count-2100 : day_count (pos 2100) 1 1 ≡ 4_419_435
day_count-2100 = day_count-early (pos 2100) 12099 1 1 refl (omega arith) (omega arith) (omega arith)

from_1970 : (y : ℤ) → pos 1970 ≤ℤ y → 4_371_953 ≤ day_count y 1 1
from_1970 y low =
    by_lt_z (pos 1970) y
    (λ lt. omega (arith, day_count-later_year (pos 1970) y (omega (arith, signed_arith)) lt, day_count-epoch))
    (λ le. let e : y ≡ pos 1970 = omega (arith, signed_arith) in rw e (omega (arith, day_count-epoch)))

pub day_range : (d : Date) → pos 1970 ≤ℤ d.year → d.year ≤ℤ pos 2099 → (pos 0 ≤ℤ epoch_day d) × (epoch_day d ≤ℤ pos 47481)
day_range d low high =
    omega (arith, signed_arith, days_from_civil-day_count d.year d.month d.day, from_1970 d.year low, day_count-day_of_year d.year d.month d.day d.day_in.0, day_count-lt_year d.year d.month d.day (pos 2100) 1 1 (civil d) (omega arith) (omega (arith, signed_arith)), day_count-2100)

-- the day number of such a date, as it is cast
pub day_cast : (d : Date) (year : ℕ) (r : ℤ) → 1970 ≤ year → year ≤ 2099 → d.year ≡ to_z w16 year → r ≡ epoch_day d → (to_z w32 (of_z w32 r) ≡ r) × (pos 0 ≤ℤ r) × (r ≤ℤ pos 47481)
day_cast d year r low high e is =
    let as_year : d.year ≡ pos year = e ∙ to_z_pos w16 year (omega arith) in
    let range : (pos 0 ≤ℤ epoch_day d) × (epoch_day d ≤ℤ pos 47481) = day_range d (rw as_year (omega (arith, signed_arith))) (rw as_year (omega (arith, signed_arith))) in
    let range_r : (pos 0 ≤ℤ r) × (r ≤ℤ pos 47481) = rw is range in
    let fits : FitsSigned w32 r = omega (arith, signed_arith) in
    (to_z-of_z w32 r fits, range_r.0, range_r.1)
