use Rattle.std.proofs.Common.{arith, length-append}
use Rattle.std.specs.Fmt.{decimal}
use Rattle.event_record.proofs.Lengths.{length-decimal}
use Rattle.event_record.proofs.digits.put_number.Goals as goal

pub put_decimal-requires : goal.put_decimal-requires
put_decimal-requires c = omega (arith, length-decimal c.args.value (omega arith))

pub returns-clause-long : goal.returns-clause-long
returns-clause-long c =
    rw (c.put_decimal.ensures, length-append c.args.out.now.items (decimal c.args.value)) (omega (arith, length-decimal c.args.value (omega arith)))
