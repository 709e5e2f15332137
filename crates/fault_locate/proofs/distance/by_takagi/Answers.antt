use Rattle.std.proofs.Common.{◌*ℤ◌, ◌^◌, ◌<◌, ◌∙◌, ap, ap₂, sym, subst, lit≤, pos, unsigned_abs}
use Rattle.relay_num.specs.declared.Cx.{Cx}
use Rattle.relay_num.specs.Numbers.{IsBelow, product}
use Rattle.relay_num.proofs.Wide.{IsBelow-product, IsBelow-weaker}
use Rattle.fault_locate.specs.Quotients.{quotient_of}
use Rattle.fault_locate.specs.Distances.{across}
use Rattle.fault_locate.proofs.WideLemmas.{thousandths, held_is}
use Rattle.fault_locate.proofs.distance.by_takagi.Goals as goal

pub overflow_mul-across : goal.overflow_mul-across
overflow_mul-across c = (thousandths c.across.result c.across.ensures.size).fits

pub across-requires-2-clause-a : goal.across-requires-2-clause-a
across-requires-2-clause-a c =
    subst (λ (z : Cx). IsBelow z (2 ^ 67)) (sym c.mul.ensures)
    (IsBelow-weaker (product c.args.line c.args.i) (2 ^ 66) (2 ^ 67) (IsBelow-product c.args.line c.args.i (2 ^ 20) (2 ^ 45) c.requires.line c.requires.i) (lit≤ tt))

pub quotient-requires-clause-a : goal.quotient-requires-clause-a
quotient-requires-clause-a c =
    let times = thousandths c.across.result c.across.ensures.size in
    subst (λ z. unsigned_abs z < 2 ^ 126) (sym times.is) times.small

pub returns-clause-value : goal.returns-clause-value
returns-clause-value c =
    let times = thousandths c.across.result c.across.ensures.size in
    let change = c.difference-change.ensures in
    c.quotient.ensures.value
    ∙ ap₂ quotient_of
    (times.is ∙ ap (λ z. pos 1000 *ℤ z) (c.across.ensures.value ∙ ap₂ across c.milliohms_times.ensures.value change))
    (held_is c.across-2.result c.across-2.ensures.size ∙ c.across-2.ensures.value ∙ ap₂ across c.mul.ensures change)
