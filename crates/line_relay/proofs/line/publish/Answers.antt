use Rattle.std.proofs.Common.{◌∙◌, ap, sym, subst, ◌∷◌}
use Rattle.std.proofs.lemmas.Bool.{not-true, cond-false}
use Rattle.goose_publish.specs.declared.points.Points.{Points}
use Rattle.goose_publish.specs.Publishing.{take_of, RisesTo, send_of}
use Rattle.goose_publish.specs.Publishers.{StandsFor}
use Rattle.line_relay.specs.Published.{shown_take}
use Rattle.line_relay.proofs.line.publish.Goals as goal

pub returns-then-is_idle-clause-send : goal.returns-then-is_idle-clause-send
returns-then-is_idle-clause-send c common goose takes stands next =
    let take = shown_take c.args.number c.args.shown.now c.args.trip in
    let idle = c.is_idle.ensures.idle common goose takes take.points stands next.rises (next.same c.if-not-changed.true) in
    c.requires.unsent ∙ sym (cond-false _ _ _ (not-true _ (sym idle ∙ c.if-is_idle.true)))

pub returns-then-is_idle-clause-after : goal.returns-then-is_idle-clause-after
returns-then-is_idle-clause-after c common goose takes stands next =
    let take = shown_take c.args.number c.args.shown.now c.args.trip in
    c.is_idle.ensures.after common goose takes take.points stands next.rises (next.same c.if-not-changed.true) c.if-is_idle.true

pub returns-in-Some-clause-send : goal.returns-in-Some-clause-send
returns-in-Some-clause-send c common goose takes stands next =
    let rises = subst (λ (p : Points). RisesTo (take_of c.args.number p) takes) (sym c.points_of.ensures.points) next.rises in
    sym c.in-Some.is ∙ c.take.ensures.send common goose takes stands rises
    ∙ ap (λ p. send_of common (take_of c.args.number p) takes) c.points_of.ensures.points

pub returns-in-Some-clause-after : goal.returns-in-Some-clause-after
returns-in-Some-clause-after c common goose takes stands next =
    let rises = subst (λ (p : Points). RisesTo (take_of c.args.number p) takes) (sym c.points_of.ensures.points) next.rises in
    subst (λ (p : Points). StandsFor common goose (take_of c.args.number p ∷ takes) c.take.new.self)
    c.points_of.ensures.points (c.take.ensures.after common goose takes stands rises)

pub returns-in-None-clause-send : goal.returns-in-None-clause-send
returns-in-None-clause-send c common goose takes stands next =
    let rises = subst (λ (p : Points). RisesTo (take_of c.args.number p) takes) (sym c.points_of.ensures.points) next.rises in
    c.requires.unsent ∙ sym c.in-None.is ∙ c.take.ensures.send common goose takes stands rises
    ∙ ap (λ p. send_of common (take_of c.args.number p) takes) c.points_of.ensures.points

pub returns-in-None-clause-after : goal.returns-in-None-clause-after
returns-in-None-clause-after c common goose takes stands next =
    let rises = subst (λ (p : Points). RisesTo (take_of c.args.number p) takes) (sym c.points_of.ensures.points) next.rises in
    subst (λ (p : Points). StandsFor common goose (take_of c.args.number p ∷ takes) c.take.new.self)
    c.points_of.ensures.points (c.take.ensures.after common goose takes stands rises)
