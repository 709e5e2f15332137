use Rattle.std.proofs.Common.{◌∷◌, ◌++◌, ◌∙◌, ap}
use Rattle.comtrade_read.specs.Numbers.{fixed}
use Rattle.comtrade_read.specs.Moments.{IsDay}
use Rattle.comtrade_read.proofs.MomentLemmas.{day_small, told, refuted}
use Rattle.comtrade_read.proofs.moment.read_day.Goals as goal

pub returns-in_err-day-clause-complete : goal.returns-in_err-day-clause-complete
returns-in_err-day-clause-complete c year month day rest is_day is =
    absurd (c.in_err-day.ensures.complete day (fixed 2 month ++ 47 ∷ (fixed 4 year ++ 44 ∷ rest)) (day_small year month day is_day).2 is)

pub returns-in_err-month-clause-complete : goal.returns-in_err-month-clause-complete
returns-in_err-month-clause-complete c year month day rest is_day is =
    let small = day_small year month day is_day in
    let first = c.in_ok-day.ensures.complete day (fixed 2 month ++ 47 ∷ (fixed 4 year ++ 44 ∷ rest)) small.2 is in
    absurd (c.in_err-month.ensures.complete month (fixed 4 year ++ 44 ∷ rest) small.1 first.1)

pub returns-in_err-year-clause-complete : goal.returns-in_err-year-clause-complete
returns-in_err-year-clause-complete c year month day rest is_day is =
    let small = day_small year month day is_day in
    let first = c.in_ok-day.ensures.complete day (fixed 2 month ++ 47 ∷ (fixed 4 year ++ 44 ∷ rest)) small.2 is in
    let second = c.in_ok-month.ensures.complete month (fixed 4 year ++ 44 ∷ rest) small.1 first.1 in
    absurd (c.in_err-year.ensures.complete year rest small.0 second.1)

pub returns-then-is_day-clause-sound : goal.returns-then-is_day-clause-sound
returns-then-is_day-clause-sound c = (
  c.in_ok-year.year,
  c.in_ok-month.month,
  c.in_ok-day.day,
  told c.is_day.result c.if-is_day.true c.is_day.ensures,
  c.in_ok-day.ensures.sound.0 ∙ ap (λ r. fixed 2 c.in_ok-day.day ++ 47 ∷ r) (c.in_ok-month.ensures.sound.0 ∙ ap (λ r. fixed 2 c.in_ok-month.month ++ 47 ∷ r) c.in_ok-year.ensures.sound.0),
)

pub returns-then-is_day-clause-complete : goal.returns-then-is_day-clause-complete
returns-then-is_day-clause-complete c year month day rest is_day is =
    let small = day_small year month day is_day in
    let first = c.in_ok-day.ensures.complete day (fixed 2 month ++ 47 ∷ (fixed 4 year ++ 44 ∷ rest)) small.2 is in
    let second = c.in_ok-month.ensures.complete month (fixed 4 year ++ 44 ∷ rest) small.1 first.1 in
    (c.in_ok-year.ensures.complete year rest small.0 second.1).1

pub returns-else-is_day-clause-complete : goal.returns-else-is_day-clause-complete
returns-else-is_day-clause-complete c year month day rest is_day is =
    let small = day_small year month day is_day in
    let first = c.in_ok-day.ensures.complete day (fixed 2 month ++ 47 ∷ (fixed 4 year ++ 44 ∷ rest)) small.2 is in
    let second = c.in_ok-month.ensures.complete month (fixed 4 year ++ 44 ∷ rest) small.1 first.1 in
    let third = c.in_ok-year.ensures.complete year rest small.0 second.1 in
    let here : IsDay c.in_ok-year.year c.in_ok-month.month c.in_ok-day.day = rw (third.0, second.0, first.0) is_day in
    refuted c.is_day.result c.if-is_day.false c.is_day.ensures here
