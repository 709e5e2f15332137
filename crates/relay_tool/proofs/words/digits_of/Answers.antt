use Rattle.std.proofs.Common.{◌≤◌, arith, lit<, length, ap}
use Rattle.std.proofs.lemmas.Fmt.{length-decimal-le}
use Rattle.std.specs.Fmt.{decimal}
use Rattle.relay_tool.proofs.words.digits_of.Goals as goal

pub put_decimal-requires : goal.put_decimal-requires
put_decimal-requires c =
    let short : length (decimal c.args.number) ≤ 20 = length-decimal-le 20 c.args.number (lit< tt) (omega arith) (omega arith) in
    let none = ap length c.new-digits.ensures in
    (lit< tt, omega arith)
