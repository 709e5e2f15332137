use Rattle.std.proofs.Common.{◌∙◌, sym, arith, ap, Some, suc, pos, ◌-ℤ◌, to_z, of_z, w64}
use Rattle.comtrade_read.proofs.DigitLemmas.{below_zero, negated, some_same, none_some}
use Rattle.comtrade_read.proofs.number.value_of.Goals as goal

pub returns-in_err-size-clause-complete : goal.returns-in_err-size-clause-complete
returns-in_err-size-clause-complete c z within is =
    let below = below_zero z c.args.bytes.now c.in-Some.behind.now within c.in-Some.ensures.sound is in
    absurd (none_some (suc below.less) (c.in_err-size.ensures.complete (suc below.less) below.small below.size))

pub returns-then-size-lt-LEAST_BELOW-clause-complete : goal.returns-then-size-lt-LEAST_BELOW-clause-complete
returns-then-size-lt-LEAST_BELOW-clause-complete c z within is =
    let below = below_zero z c.args.bytes.now c.in-Some.behind.now within c.in-Some.ensures.sound is in
    let size = some_same c.in_ok-size.size (suc below.less) (c.in_ok-size.ensures.complete (suc below.less) below.small below.size) in
    absurd (omega (arith, size, c.if-size-lt-LEAST_BELOW.true))

pub returns-clause-complete : goal.returns-clause-complete
returns-clause-complete c z within is =
    let below = below_zero z c.args.bytes.now c.in-Some.behind.now within c.in-Some.ensures.sound is in
    let size = some_same c.in_ok-size.size (suc below.less) (c.in_ok-size.ensures.complete (suc below.less) below.small below.size) in
    let value = negated below.less below.small in
    ap (λ s. Some (to_z w64 (of_z w64 (pos 0 -ℤ to_z w64 s)))) size ∙ ap (λ v. Some v) (value ∙ sym below.value)
