use Rattle.std.proofs.Common.{arith, length-append, length, ◌≤◌, ◌+◌}
use Rattle.std.proofs.lemmas.Grind.{common_steps}
use Rattle.std.specs.Fmt.{decimal}
use Rattle.comtrade_write.proofs.Lengths.{length-abs}
use Rattle.comtrade_write.proofs.numbers.put_signed.Goals as goal
use Rattle.comtrade_write.proofs.numbers.put_signed.Goals.{then-value-lt0, else-value-lt0}

pub put_decimal-requires : goal.put_decimal-requires
put_decimal-requires c =
    let digits = length-abs c.unsigned_abs.result (omega (arith, c.unsigned_abs.ensures.bound)) in
    let grown : length c.if-value-lt0.out.items ≤ length c.args.out.now.items + 1 =
    elim c.if-value-lt0.branch [ then-value-lt0 w ↦ grind (arith, common_steps) | else-value-lt0 w ↦ grind (arith, common_steps) ] in
    (omega arith, omega (arith, grown, digits))

pub returns-clause-long : goal.returns-clause-long
returns-clause-long c =
    let digits = length-abs c.unsigned_abs.result (omega (arith, c.unsigned_abs.ensures.bound)) in
    let grown : length c.if-value-lt0.out.items ≤ length c.args.out.now.items + 1 =
    elim c.if-value-lt0.branch [ then-value-lt0 w ↦ grind (arith, common_steps) | else-value-lt0 w ↦ grind (arith, common_steps) ] in
    rw (c.put_decimal.ensures, length-append c.if-value-lt0.out.items (decimal c.unsigned_abs.result)) (omega (arith, grown, digits))
