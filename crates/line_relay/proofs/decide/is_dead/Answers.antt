use Rattle.std.proofs.Common.{sym, refl, ap, ◌∙◌}
use Rattle.std.specs.Option.{option_map}
use Rattle.line_relay.specs.Measured.{measured}
use Rattle.line_relay.specs.FarBelow.{greatest_by, is_far_below}
use Rattle.line_relay.proofs.FarBelowLemmas.{are_below}
use Rattle.line_relay.proofs.decide.is_dead.Goals as goal

pub returns-then-is_far_below : goal.returns-then-is_far_below
returns-then-is_far_below c =
    let n = c.args.n in
    let least = c.args.settings.now.open_i in
    let m = measured c.in-Some.phasors in
    let greatest = c.requires.greatest ∙ ap (λ phasors. greatest_by (option_map measured phasors)) c.in-Some.is in
    let below = are_below n least m.currents (ap (λ size. is_far_below size n least) (sym greatest) ∙ sym c.is_far_below.ensures ∙ c.if-is_far_below.true) in
    rw (c.in-Some.is, below.a, below.b, below.c) refl
