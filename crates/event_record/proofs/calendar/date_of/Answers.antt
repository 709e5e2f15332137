use Rattle.std.proofs.Common.{◌≡◌, ◌*ℤ◌, pos, arith, ap, ◌∙◌, FitsSigned, w64}
use Rattle.std.proofs.lemmas.Int.{to_z-of_z}
use Rattle.jiff_core.specs.Date.{epoch_day}
use Rattle.jiff_core.specs.DateTime.{civil_nanos}
use Rattle.jiff_core.proofs.SignedLemmas.{signed_arith}
use Rattle.event_record.proofs.Midnight.{day-midnight}
use Rattle.event_record.proofs.calendar.date_of.Goals as goal

pub returns-in-Ok : goal.returns-in-Ok
returns-in-Ok c =
    let first : FitsSigned w64 c.from.result = rw c.from.ensures (omega (arith, signed_arith)) in
    let then : FitsSigned w64 (c.from.result *ℤ pos 86400) = rw c.from.ensures (omega (arith, signed_arith)) in
    let second = rw (to_z-of_z w64 c.from.result first, to_z-of_z w64 (c.from.result *ℤ pos 86400) then, c.from.ensures) at c.in-Ok.ensures.value in
    let nanos : civil_nanos c.to_datetime.result ≡ pos c.args.day *ℤ pos 86_400_000_000_000 = c.to_datetime.ensures ∙ rw second (omega (arith, signed_arith)) in
    ap epoch_day c.date.ensures ∙ day-midnight c.to_datetime.result c.args.day nanos
