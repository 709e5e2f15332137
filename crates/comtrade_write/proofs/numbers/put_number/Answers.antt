use Rattle.std.proofs.Common.{arith, length-append}
use Rattle.std.specs.Fmt.{decimal}
use Rattle.comtrade_write.proofs.Lengths.{length-nine}
use Rattle.comtrade_write.proofs.numbers.put_number.Goals as goal

pub put_decimal-requires : goal.put_decimal-requires
put_decimal-requires c = omega (arith, length-nine c.args.value (omega arith))

pub returns-clause-long : goal.returns-clause-long
returns-clause-long c =
    rw (c.put_decimal.ensures, length-append c.args.out.now.items (decimal c.args.value)) (omega (arith, length-nine c.args.value (omega arith)))
