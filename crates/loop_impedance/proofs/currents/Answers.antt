use Rattle.std.proofs.Common.{◌≡◌, ◌∙◌, ◌^◌, ap, ap₂, arith, lit≤}
use Rattle.relay_num.specs.declared.Cx.{Cx}
use Rattle.relay_num.specs.Numbers.{sum, product}
use Rattle.loop_impedance.specs.LoopLanes.{between_lanes, compensated_lanes}
use Rattle.loop_impedance.proofs.LoopLemmas.{joined_currents, between_held, between_below, held_is}
use Rattle.loop_impedance.proofs.currents.Goals as goal

module _ (c : goal.After-joined) where
  real : c.between.result ≡ between_lanes c.args.a.re c.args.b.re c.args.c.re
  real =
      c.between.ensures ∙ between_held c.args.a.re c.args.b.re c.args.c.re (omega (arith, c.requires.a.re)) (omega (arith, c.requires.b.re)) (omega (arith, c.requires.c.re))

  imaginary : c.between-2.result ≡ between_lanes c.args.a.im c.args.b.im c.args.c.im
  imaginary =
      c.between-2.ensures ∙ between_held c.args.a.im c.args.b.im c.args.c.im (omega (arith, c.requires.a.im)) (omega (arith, c.requires.b.im)) (omega (arith, c.requires.c.im))

pub compensated-requires-clause-lanes : goal.compensated-requires-clause-lanes
compensated-requires-clause-lanes c =
    let real : c.between.result ≡ between_lanes c.args.a.re c.args.b.re c.args.c.re =
    c.between.ensures ∙ between_held c.args.a.re c.args.b.re c.args.c.re (omega (arith, c.requires.a.re)) (omega (arith, c.requires.b.re)) (omega (arith, c.requires.c.re)) in
    rw real (between_below c.args.a.re c.args.b.re c.args.c.re (omega (arith, c.requires.a.re)) (omega (arith, c.requires.b.re)) (omega (arith, c.requires.c.re)))

pub compensated-requires-2-clause-lanes : goal.compensated-requires-2-clause-lanes
compensated-requires-2-clause-lanes c =
    let imaginary : c.between-2.result ≡ between_lanes c.args.a.im c.args.b.im c.args.c.im =
    c.between-2.ensures ∙ between_held c.args.a.im c.args.b.im c.args.c.im (omega (arith, c.requires.a.im)) (omega (arith, c.requires.b.im)) (omega (arith, c.requires.c.im)) in
    rw imaginary (between_below c.args.a.im c.args.b.im c.args.c.im (omega (arith, c.requires.a.im)) (omega (arith, c.requires.b.im)) (omega (arith, c.requires.c.im)))

pub returns : goal.returns
returns c =
    let shared : c.compensation-shared.result ≡ product c.args.k0 (sum (sum c.args.a c.args.b) c.args.c) =
    c.compensation-shared.ensures.value ∙ ap (product c.args.k0) c.total.ensures.sum in
    let re : c.compensated.result ≡ compensated_lanes (between_lanes c.args.a.re c.args.b.re c.args.c.re) (product c.args.k0 (sum (sum c.args.a c.args.b) c.args.c)).re =
    c.compensated.ensures
    ∙ ap₂ compensated_lanes (real c) (held_is _ (2 ^ 50) c.compensation-shared.ensures.size.re (lit≤ tt) ∙ ap (λ (z : Cx). z.re) shared) in
    let im : c.compensated-2.result ≡ compensated_lanes (between_lanes c.args.a.im c.args.b.im c.args.c.im) (product c.args.k0 (sum (sum c.args.a c.args.b) c.args.c)).im =
    c.compensated-2.ensures
    ∙ ap₂ compensated_lanes (imaginary c) (held_is _ (2 ^ 50) c.compensation-shared.ensures.size.im (lit≤ tt) ∙ ap (λ (z : Cx). z.im) shared) in
    rw (c.joined.ensures, re, im) (joined_currents c.args.k0 c.args.a c.args.b c.args.c)
