use Rattle.std.proofs.Common.{◌≡◌, ◌∙◌, sym, true, false, refl}
use Rattle.loop_impedance.specs.Masks.{has_bit}
use Rattle.line_relay.specs.FormedLoops.{sense_with}
use Rattle.line_relay.proofs.loops.sense_of.Goals as goal

pub returns-then-not-has_bit : goal.returns-then-not-has_bit
unfolding sense_with
returns-then-not-has_bit c =
    let without : has_bit c.args.lp c.args.with_current ≡ false = sym c.has_bit.ensures ∙ c.if-not-has_bit.true in
    rw without refl

pub returns-in-Some : goal.returns-in-Some
unfolding sense_with
returns-in-Some c =
    let with : has_bit c.args.lp c.args.with_current ≡ true = sym c.has_bit.ensures ∙ c.if-not-has_bit.false in
    rw (with, c.in-Some.is) refl

pub returns-in-None : goal.returns-in-None
unfolding sense_with
returns-in-None c =
    let with : has_bit c.args.lp c.args.with_current ≡ true = sym c.has_bit.ensures ∙ c.if-not-has_bit.false in
    rw (with, c.in-None.is) c.polarised_sense.ensures
