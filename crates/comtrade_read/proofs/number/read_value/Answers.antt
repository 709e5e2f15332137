use Rattle.std.proofs.Common.{◌∙◌}
use Rattle.std.specs.Fmt.{signed_decimal}
use Rattle.comtrade_read.proofs.DigitLemmas.{signed-free, kept, some_same, none_some}
use Rattle.comtrade_read.proofs.number.read_value.Goals as goal

pub returns-in_err-bytes-clause-complete : goal.returns-in_err-bytes-clause-complete
returns-in_err-bytes-clause-complete c z rest within is =
    absurd (c.in_err-bytes.ensures.complete (signed_decimal z) rest (signed-free z within) is)

pub returns-in_err-value-clause-complete : goal.returns-in_err-value-clause-complete
returns-in_err-value-clause-complete c z rest within is =
    let parts = c.in_ok-bytes.ensures.complete (signed_decimal z) rest (signed-free z within) is in
    let none = c.in_err-value.ensures.complete z within parts.0 in absurd (none_some z none)

pub returns-clause-complete : goal.returns-clause-complete
returns-clause-complete c z rest within is =
    let parts = c.in_ok-bytes.ensures.complete (signed_decimal z) rest (signed-free z within) is in
    let some = c.in_ok-value.ensures.complete z within parts.0 in (kept c.in_ok-value.value c.in_ok-value.ensures.sound.1 ∙ some_same c.in_ok-value.value z some, parts.1)
