use Rattle.std.proofs.Common.{◌≡◌, ◌*ℤ◌, ◌^◌, ◌<◌, ◌∙◌, ap, ap₂, sym, subst, arith, lit≤, pos, unsigned_abs, ℤ}
use Rattle.relay_num.specs.declared.Cx.{Cx}
use Rattle.relay_num.specs.Numbers.{IsBelow, norm}
use Rattle.relay_num.proofs.Wide.{held, from_is, size-norm}
use Rattle.fault_locate.specs.Quotients.{quotient_of}
use Rattle.fault_locate.specs.Distances.{across}
use Rattle.fault_locate.proofs.WideLemmas.{ExactProduct, exact_product, thousandths}
use Rattle.fault_locate.proofs.distance.by_reactance.Goals as goal

-- the line's reactance times the square of the current
divisor : (line_x : ℤ) (i : Cx) (x square : ℤ) → unsigned_abs line_x < 2 ^ 20 → IsBelow i (2 ^ 45) → x ≡ line_x → square ≡ norm i →
    ExactProduct (held x *ℤ held square) (line_x *ℤ norm i)
divisor line_x i x square h k e f =
    rw (e, f) (exact_product line_x (norm i) (2 ^ 20) (2 ^ 91) h (size-norm i (2 ^ 45) k) (lit≤ tt))

pub overflow_mul-from : goal.overflow_mul-from
overflow_mul-from c =
    let x = from_is c.from.result c.args.line_x c.from.ensures (omega (arith, c.requires.line_x)) in
    (divisor c.args.line_x c.args.i c.from.result c.norm.result c.requires.line_x c.requires.i x c.norm.ensures).fits

pub quotient-requires-clause-a : goal.quotient-requires-clause-a
quotient-requires-clause-a c =
    let times = thousandths c.across.result c.across.ensures.size in
    subst (λ z. unsigned_abs z < 2 ^ 126) (sym times.is) times.small

pub quotient-requires-clause-d : goal.quotient-requires-clause-d
quotient-requires-clause-d c =
    let x = from_is c.from.result c.args.line_x c.from.ensures (omega (arith, c.requires.line_x)) in
    let times = divisor c.args.line_x c.args.i c.from.result c.norm.result c.requires.line_x c.requires.i x c.norm.ensures in
    subst (λ z. unsigned_abs z < 2 ^ 126) (sym times.is) times.small

pub returns-clause-value : goal.returns-clause-value
returns-clause-value c =
    let x = from_is c.from.result c.args.line_x c.from.ensures (omega (arith, c.requires.line_x)) in
    let times = thousandths c.across.result c.across.ensures.size in
    let by = divisor c.args.line_x c.args.i c.from.result c.norm.result c.requires.line_x c.requires.i x c.norm.ensures in
    c.quotient.ensures.value
    ∙ ap₂ quotient_of (times.is ∙ ap (λ z. pos 1000 *ℤ z) (c.across.ensures.value ∙ ap (λ z. across z c.args.i) c.milliohms_times.ensures.value)) by.is
