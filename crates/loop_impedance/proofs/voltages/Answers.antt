use Rattle.std.proofs.Common.{◌≡◌, ◌∙◌, arith}
use Rattle.loop_impedance.specs.LoopLanes.{between_lanes}
use Rattle.loop_impedance.proofs.LoopLemmas.{joined_voltages, between_held}
use Rattle.loop_impedance.proofs.voltages.Goals as goal

pub returns : goal.returns
returns c =
    let real : c.between.result ≡ between_lanes c.args.a.re c.args.b.re c.args.c.re =
    c.between.ensures ∙ between_held c.args.a.re c.args.b.re c.args.c.re (omega (arith, c.requires.a.re)) (omega (arith, c.requires.b.re)) (omega (arith, c.requires.c.re)) in
    let imaginary : c.between-2.result ≡ between_lanes c.args.a.im c.args.b.im c.args.c.im =
    c.between-2.ensures ∙ between_held c.args.a.im c.args.b.im c.args.c.im (omega (arith, c.requires.a.im)) (omega (arith, c.requires.b.im)) (omega (arith, c.requires.c.im)) in
    rw (c.joined.ensures, real, imaginary) (joined_voltages c.args.a c.args.b c.args.c)
