use Rattle.std.proofs.Common.{arith, length-append}
use Rattle.std.proofs.lemmas.Fmt.{length-decimal-le}
use Rattle.std.specs.Fmt.{decimal}
use Rattle.fault_locate.proofs.text.put_seven.Goals as goal

pub put_decimal-requires : goal.put_decimal-requires
put_decimal-requires c = omega (arith, length-decimal-le 7 c.args.value (omega arith) (omega arith) (omega arith))

pub returns-clause-long : goal.returns-clause-long
returns-clause-long c =
    rw (c.put_decimal.ensures, length-append c.args.out.now.items (decimal c.args.value))
    (omega (arith, length-decimal-le 7 c.args.value (omega arith) (omega arith) (omega arith)))
