use Rattle.std.proofs.Common.{ap, ◌∙◌, arith}
use Rattle.jiff_core.specs.Date.{epoch_day}
use Rattle.jiff_core.proofs.SignedLemmas.{signed_arith, signed_casts, one_part}
use Rattle.settings_read.proofs.DayRange.{day_cast}
use Rattle.settings_read.proofs.start.day_of.Goals as goal

pub overflow_cast-result : goal.overflow_cast-result
overflow_cast-result c =
    let f = day_cast c.in-Ok.date c.args.year c.to_unix_epoch_day.result c.if-year-lt1970.false c.if-year-gt2099.false c.in-Ok.ensures.value.0 (c.to_unix_epoch_day.ensures.value ∙ ap epoch_day c.to_plain.ensures) in
    rw f.0 (omega (arith, signed_casts, f.1, f.2))

pub returns-in-Ok-clause-bound : goal.returns-in-Ok-clause-bound
returns-in-Ok-clause-bound c =
    let f = day_cast c.in-Ok.date c.args.year c.to_unix_epoch_day.result c.if-year-lt1970.false c.if-year-gt2099.false c.in-Ok.ensures.value.0 (c.to_unix_epoch_day.ensures.value ∙ ap epoch_day c.to_plain.ensures) in
    rw f.0 (omega (arith, signed_arith, f.1, f.2, one_part c.to_unix_epoch_day.result))
