use Rattle.std.proofs.Common.{◌∙◌, ◌+◌, ◌%◌, sym, ap, arith, unwrap_or}
use Rattle.sample_stream.proofs.Congruence.{distance_by, repeats, is_late, is_taken, taken_next, taken_jump, congruent_at}
use Rattle.sample_stream.proofs.after.after.Goals as goal

pub returns-then-distance-eq1-clause-outcome : goal.returns-then-distance-eq1-clause-outcome
returns-then-distance-eq1-clause-outcome c =
    let is = distance_by c.args.rate c.args.last c.args.counter c.requires.above c.requires.counter c.args.before _ c.requires.before c.ahead-distance.ensures.distance in
    let one = sym is ∙ c.if-distance-eq1.true in
    sym (is_taken c.args.rate c.args.last c.args.counter c.requires.above c.requires.counter (omega (arith, one)) (omega (arith, one))
    ∙ taken_next c.args.last _ one)

pub returns-then-distance-eq1-clause-same_counter : goal.returns-then-distance-eq1-clause-same_counter
returns-then-distance-eq1-clause-same_counter c x e =
    let is = distance_by c.args.rate c.args.last c.args.counter c.requires.above c.requires.counter c.args.before _ c.requires.before c.ahead-distance.ensures.distance in
    let one = sym is ∙ c.if-distance-eq1.true in
    ap (λ number. number % c.args.rate) (sym (ap (λ o. unwrap_or o 0) e) ∙ ap (λ d. c.args.last + d) (sym one))
    ∙ congruent_at c.args.rate c.args.last c.args.counter c.requires.above c.requires.counter (omega (arith, one)) (omega (arith, one))

pub returns-then-distance-eq0-clause-outcome : goal.returns-then-distance-eq0-clause-outcome
returns-then-distance-eq0-clause-outcome c =
    let is = distance_by c.args.rate c.args.last c.args.counter c.requires.above c.requires.counter c.args.before _ c.requires.before c.ahead-distance.ensures.distance in
    sym (repeats c.args.rate c.args.last c.args.counter c.requires.above c.requires.counter (sym is ∙ c.if-distance-eq0.true))

pub returns-then-distance-rate-clause-outcome : goal.returns-then-distance-rate-clause-outcome
returns-then-distance-rate-clause-outcome c =
    let is = distance_by c.args.rate c.args.last c.args.counter c.requires.above c.requires.counter c.args.before _ c.requires.before c.ahead-distance.ensures.distance in
    rw is (sym (is_late c.args.rate c.args.last c.args.counter c.requires.above c.requires.counter (omega (arith, is)) (omega (arith, is))))

pub returns-else-distance-rate-clause-outcome : goal.returns-else-distance-rate-clause-outcome
returns-else-distance-rate-clause-outcome c =
    let is = distance_by c.args.rate c.args.last c.args.counter c.requires.above c.requires.counter c.args.before _ c.requires.before c.ahead-distance.ensures.distance in
    rw is (sym (is_taken c.args.rate c.args.last c.args.counter c.requires.above c.requires.counter (omega (arith, is)) (omega (arith, is))
    ∙ taken_jump c.args.last _ (λ one. c.if-distance-eq1.false (is ∙ one))))

pub returns-else-distance-rate-clause-same_counter : goal.returns-else-distance-rate-clause-same_counter
returns-else-distance-rate-clause-same_counter c x e =
    let is = distance_by c.args.rate c.args.last c.args.counter c.requires.above c.requires.counter c.args.before _ c.requires.before c.ahead-distance.ensures.distance in
    ap (λ number. number % c.args.rate) (sym (ap (λ o. unwrap_or o 0) e) ∙ ap (λ d. c.args.last + d) is)
    ∙ congruent_at c.args.rate c.args.last c.args.counter c.requires.above c.requires.counter (omega (arith, is)) (omega (arith, is))
