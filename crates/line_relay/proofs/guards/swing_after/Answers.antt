use Rattle.std.proofs.Common.{ap, ap₂, ◌∙◌, subst, refl, ◌∷◌}
use Rattle.sample_windows.specs.Below.{any_below}
use Rattle.swing_block.specs.Swinging.{SwingTake, take_of, was_declared}
use Rattle.swing_block.specs.KeptSwing.{StandsFor}
use Rattle.line_relay.specs.declared.measured.Measured.{Measured}
use Rattle.line_relay.specs.KeptGuards.{swing_take}
use Rattle.line_relay.proofs.guards.swing_after.Goals as goal

pub returns-in-Some-clause-after : goal.returns-in-Some-clause-after
returns-in-Some-clause-after c rate takes stands =
    rw c.in-Some.is (subst (λ (t : SwingTake). StandsFor c.args.s.now rate (t ∷ takes) c.take.new.self)
    (ap₂ take_of c.swing_place-place.ensures c.unbalanced-is_unbalanced.ensures ∙ ap (λ (m : Measured). swing_take c.args.s.now m) c.measure-m.ensures.value)
    (c.take.ensures.after c.args.s.now rate takes stands))

pub returns-in-None-clause-blocks : goal.returns-in-None-clause-blocks
unfolding was_declared any_below
returns-in-None-clause-blocks c rate takes stands = rw c.in-None.is refl
