use Rattle.std.proofs.Common.{arith, append_assoc, length-append, lit<, ◌^◌, ◌<◌}
use Rattle.std.proofs.lemmas.Fmt.{decimal_digit, decimal_step}
use Rattle.relay_num.proofs.Digits.{length_one, length_more}
use Rattle.relay_num.proofs.decimals.+append_digits.Goals as goal

pub push-requires : goal.push-requires
push-requires t c = (lit< tt, omega (arith, length_one c.args.value c.if-value-lt10.true))

pub append_digits-requires : goal.append_digits-requires
append_digits-requires t c =
    let small : c.args.value < 2 ^ 64 = omega arith in
    (omega arith, omega (arith, length_more c.args.value c.if-value-lt10.false small))

pub push-requires-else-value-lt10 : goal.push-requires-else-value-lt10
push-requires-else-value-lt10 t c =
    let small : c.args.value < 2 ^ 64 = omega arith in
    (lit< tt, simp (c.append_digits.ensures, length-append) (omega (arith, length_more c.args.value c.if-value-lt10.false small)))

pub returns-then-value-lt10 : goal.returns-then-value-lt10
returns-then-value-lt10 t c = rw (decimal_digit c.args.value c.if-value-lt10.true) c.push.ensures.items

pub returns-else-value-lt10 : goal.returns-else-value-lt10
returns-else-value-lt10 t c =
    let small : c.args.value < 2 ^ 64 = omega arith in
    rw (decimal_step c.args.value c.if-value-lt10.false small, ← append_assoc, ← c.append_digits.ensures) c.push-else-value-lt10.ensures.items
