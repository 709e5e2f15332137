use Rattle.std.proofs.Common.{◌≡◌, arith}
use Rattle.relay_num.proofs.Signed.{signed, one_part}
use Rattle.quad_zone.proofs.QuadLemmas.{tilted}
use Rattle.quad_zone.proofs.impedance.leaned.Goals as goal

pub overflow_sub-result : goal.overflow_sub-result
overflow_sub-result c =
    let same : c.from.result ≡ c.args.k = omega (arith, signed, c.from.ensures, c.requires.k_sign, one_part c.args.k) in
    rw same (tilted c.args.x c.args.k c.args.y c.requires.x c.requires.k c.requires.y).difference_fits

pub returns : goal.returns
returns c =
    let same : c.from.result ≡ c.args.k = omega (arith, signed, c.from.ensures, c.requires.k_sign, one_part c.args.k) in
    rw same (tilted c.args.x c.args.k c.args.y c.requires.x c.requires.k c.requires.y).difference_is
