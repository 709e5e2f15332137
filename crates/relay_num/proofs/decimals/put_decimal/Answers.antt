use Rattle.std.proofs.Common.{arith}
use Rattle.std.proofs.lemmas.Fmt.{length-decimal-le}
use Rattle.relay_num.proofs.decimals.put_decimal.Goals as goal

pub append_digits-requires : goal.append_digits-requires
append_digits-requires g c = grind (arith, length-decimal-le 20 c.args.value)
