use Rattle.std.proofs.Common.{◌≤◌, arith, lit<, length, length-append}
use Rattle.std.proofs.lemmas.Fmt.{length-decimal-le}
use Rattle.std.specs.Fmt.{decimal}
use Rattle.relay_tool.proofs.note.put_number.Goals as goal

pub put_decimal-requires : goal.put_decimal-requires
put_decimal-requires c =
    let short : length (decimal c.args.number) ≤ 20 = length-decimal-le 20 c.args.number (lit< tt) (omega arith) (omega arith) in
    (lit< tt, omega arith)

pub returns-clause-long : goal.returns-clause-long
returns-clause-long c =
    let short : length (decimal c.args.number) ≤ 20 = length-decimal-le 20 c.args.number (lit< tt) (omega arith) (omega arith) in
    rw (c.put_decimal.ensures, length-append) (omega arith)
