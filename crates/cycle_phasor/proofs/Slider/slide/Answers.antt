use Rattle.std.proofs.Common.{◌≡◌, ◌^◌, length, arith, ap, FitsSigned, to_z-of_z, rules}
use Rattle.std.specs.Int.{w64}
use Rattle.std.specs.Option.{option_copied}
use Rattle.cycle_phasor.specs.Sliding.{values_left}
use Rattle.lanes.proofs.LaneLemmas.{AllBelow-differences}
use Rattle.cycle_phasor.proofs.SlideLemmas.{minus_is}
use Rattle.cycle_phasor.proofs.Slider.slide.Goals as goal

pub moved-self-requires-clause-step : goal.moved-self-requires-clause-step
moved-self-requires-clause-step c =
    let same : length c.args.new.now ≡ length (values_left (option_copied c.args.old)) = omega (arith, ap length c.values_or_zeros.ensures) in
    rw (c.difference8-step.ensures, c.values_or_zeros.ensures) (AllBelow-differences c.args.new.now (values_left (option_copied c.args.old)) (2 ^ 28) (2 ^ 28) same c.requires.new c.requires.left)

pub moved-self-requires-2-clause-step : goal.moved-self-requires-2-clause-step
moved-self-requires-2-clause-step c =
    let same : length c.args.new.now ≡ length (values_left (option_copied c.args.old)) = omega (arith, ap length c.values_or_zeros.ensures) in
    rw (c.difference8-step.ensures, c.values_or_zeros.ensures) (AllBelow-differences c.args.new.now (values_left (option_copied c.args.old)) (2 ^ 28) (2 ^ 28) same c.requires.new c.requires.left)

pub moved-self-requires-clause-totals : goal.moved-self-requires-clause-totals
moved-self-requires-clause-totals c =
    let f : FitsSigned w64 c.weights-cosine.result.0 = search rules in
    rw (to_z-of_z f, c.weights-cosine.ensures.cosine, c.difference8-step.ensures, c.values_or_zeros.ensures) c.requires.re

pub moved-self-requires-2-clause-totals : goal.moved-self-requires-2-clause-totals
moved-self-requires-2-clause-totals c =
    rw (minus_is _ c.weights-cosine.ensures.size.1, c.weights-cosine.ensures.sine, c.difference8-step.ensures, c.values_or_zeros.ensures) c.requires.im
