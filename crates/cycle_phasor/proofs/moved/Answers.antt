use Rattle.std.proofs.Common.{◌≡◌, ◌*◌, ◌^◌, length, ◌*ℤ◌, arith, lit≤, ◌+◌, to_z-of_z}
use Rattle.std.proofs.lemmas.List.{length-map}
use Rattle.lanes.specs.Lanes.{multiples}
use Rattle.lanes.proofs.LaneLemmas.{AllBelow-weaker, AllBelow-multiples, AllBelow-left}
use Rattle.cycle_phasor.proofs.moved.Goals as goal

pub short_multiple8-requires-clause-a : goal.short_multiple8-requires-clause-a
short_multiple8-requires-clause-a c = AllBelow-weaker c.args.step.now (2 ^ 29) (2 ^ 31) c.requires.step (lit≤ tt)

pub short_multiple8-requires-clause-k : goal.short_multiple8-requires-clause-k
short_multiple8-requires-clause-k c = rw (to_z-of_z c.ranges.weight) (omega (arith, c.requires.weight))

pub sum8-requires-clause-a : goal.sum8-requires-clause-a
sum8-requires-clause-a c =
    let small = AllBelow-multiples c.args.step.now c.args.weight (2 ^ 29) (2 ^ 20) c.requires.step (omega (arith, c.requires.weight)) in
    let same : length c.args.totals.now ≡ length (multiples c.args.step.now c.args.weight) = omega (arith, length-map c.args.step.now (λ x. x *ℤ c.args.weight)) in
    AllBelow-weaker c.args.totals.now (2 ^ 49 + 2 ^ 29 * 2 ^ 20) (2 ^ 62) (AllBelow-left c.args.totals.now (multiples c.args.step.now c.args.weight) (2 ^ 49) (2 ^ 29 * 2 ^ 20) same c.requires.totals small) (lit≤ tt)

pub sum8-requires-clause-b : goal.sum8-requires-clause-b
sum8-requires-clause-b c =
    let small = AllBelow-multiples c.args.step.now c.args.weight (2 ^ 29) (2 ^ 20) c.requires.step (omega (arith, c.requires.weight)) in
    rw (c.short_multiple8.ensures, to_z-of_z c.ranges.weight) (AllBelow-weaker (multiples c.args.step.now c.args.weight) (2 ^ 29 * 2 ^ 20) (2 ^ 62) small (lit≤ tt))
