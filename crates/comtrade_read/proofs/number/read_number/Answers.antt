use Rattle.std.proofs.Common.{arith}
use Rattle.std.specs.Fmt.{decimal}
use Rattle.comtrade_read.proofs.DigitLemmas.{decimal-free}
use Rattle.comtrade_read.proofs.number.read_number.Goals as goal

pub returns-in_err-bytes-clause-complete : goal.returns-in_err-bytes-clause-complete
returns-in_err-bytes-clause-complete c n rest small is =
    absurd (c.in_err-bytes.ensures.complete (decimal n) rest (decimal-free c.args.end n small (omega arith)) is)

pub returns-in_err-number-clause-complete : goal.returns-in_err-number-clause-complete
returns-in_err-number-clause-complete c n rest small is =
    let parts = c.in_ok-bytes.ensures.complete (decimal n) rest (decimal-free c.args.end n small (omega arith)) is in
    let none = c.in_err-number.ensures.complete n small parts.0 in absurd (cc)

pub returns-clause-complete : goal.returns-clause-complete
returns-clause-complete c n rest small is =
    let parts = c.in_ok-bytes.ensures.complete (decimal n) rest (decimal-free c.args.end n small (omega arith)) is in
    let some = c.in_ok-number.ensures.complete n small parts.0 in ((cc), parts.1)
