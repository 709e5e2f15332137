use Rattle.std.proofs.Common.{arith, ◌+◌, ◌*◌, ◌^◌, lit≤}
use Rattle.relay_num.specs.declared.Cx.{Cx}
use Rattle.relay_num.proofs.Wide.{same_parts, IsBelow-product, IsBelow-weaker}
use Rattle.relay_num.specs.Numbers.{IsBelow}
use Rattle.loop_impedance.proofs.LoopLemmas.{Part, part}
use Rattle.loop_impedance.proofs.compensation.Goals as goal

module _ (residual k0 : Cx) (l : IsBelow residual (3 * (2 ^ 30 + 1))) (k : IsBelow k0 4001) where
  real : Part k0.re residual.re k0.im residual.im
  real = part k0.re residual.re k0.im residual.im (omega (arith, k.re)) (omega (arith, l.re)) (omega (arith, k.im)) (omega (arith, l.im))

  imaginary : Part k0.re residual.im k0.im residual.re
  imaginary = part k0.re residual.im k0.im residual.re (omega (arith, k.re)) (omega (arith, l.im)) (omega (arith, k.im)) (omega (arith, l.re))

pub overflow_sub-result : goal.overflow_sub-result
overflow_sub-result c = (real c.args.residual c.args.k0 c.requires.residual c.requires.k0).less

pub overflow_mul-result-3 : goal.overflow_mul-result-3
overflow_mul-result-3 c = (imaginary c.args.residual c.args.k0 c.requires.residual c.requires.k0).first

pub overflow_mul-result-4 : goal.overflow_mul-result-4
overflow_mul-result-4 c = (imaginary c.args.residual c.args.k0 c.requires.residual c.requires.k0).second

pub overflow_add-result : goal.overflow_add-result
overflow_add-result c = (imaginary c.args.residual c.args.k0 c.requires.residual c.requires.k0).more

pub returns-clause-value : goal.returns-clause-value
returns-clause-value c =
    same_parts (real c.args.residual c.args.k0 c.requires.residual c.requires.k0).is_less (imaginary c.args.residual c.args.k0 c.requires.residual c.requires.k0).is_more

pub returns-clause-size : goal.returns-clause-size
returns-clause-size c =
    rw (returns-clause-value c) (IsBelow-weaker _ _ (2 ^ 50) (IsBelow-product c.args.k0 c.args.residual 4001 (3 * (2 ^ 30 + 1)) c.requires.k0 c.requires.residual) (lit≤ tt))
