use Rattle.std.proofs.Common.{◌≡◌, neg_ℤ, ◌+◌, ◌*◌, ◌^◌, ◌≤◌, length, pos, arith, lit≤, to_z-of_z, map, List, ℤ, ◌*ℤ◌, unsigned_abs}
use Rattle.std.proofs.lemmas.List.{length-map}
use Rattle.std.specs.Int.{int_min, int_max}
use Rattle.relay_num.specs.Bounds.{AllBelow}
use Rattle.lanes.specs.Lanes.{differences, multiples}
use Rattle.lanes.proofs.LaneLemmas.{AllBelow-weaker, AllBelow-multiples, AllBelow-differences, AllBelow-floor, AllBelow-min}
use Rattle.mimic_filter.proofs.FilterLemmas.{filter_by_lane}
use Rattle.mimic_filter.proofs.mimic8.Goals as goal

small_step : (a b : ℤ) (now before : List ℤ) → length now ≡ length before → unsigned_abs a ≤ 65536 → unsigned_abs b ≤ 65536 → AllBelow now (2 ^ 28) → AllBelow before (2 ^ 28)
    → AllBelow (differences (multiples now a) (multiples before b)) (2 ^ 62)
small_step a b now before same h k x y =
    let left = AllBelow-multiples now a (2 ^ 28) 65537 x (omega arith) in
    let right = AllBelow-multiples before b (2 ^ 28) 65537 y (omega arith) in
    AllBelow-weaker _ (2 ^ 28 * 65537 + 2 ^ 28 * 65537) (2 ^ 62) (AllBelow-differences (multiples now a) (multiples before b) (2 ^ 28 * 65537) (2 ^ 28 * 65537) (omega (arith, length-map now (λ z. z *ℤ a), length-map before (λ z. z *ℤ b))) left right) (lit≤ tt)

pub difference8-step-requires-clause-a : goal.difference8-step-requires-clause-a
difference8-step-requires-clause-a c =
    rw (c.short_multiple8.ensures, to_z-of_z c.ranges.a) (AllBelow-weaker _ (2 ^ 28 * 65537) (2 ^ 62) (AllBelow-multiples c.args.now.now c.args.a (2 ^ 28) 65537 c.requires.now (omega (arith, c.requires.a))) (lit≤ tt))

pub difference8-step-requires-clause-b : goal.difference8-step-requires-clause-b
difference8-step-requires-clause-b c =
    rw (c.short_multiple8-2.ensures, to_z-of_z c.ranges.b) (AllBelow-weaker _ (2 ^ 28 * 65537) (2 ^ 62) (AllBelow-multiples c.args.before.now c.args.b (2 ^ 28) 65537 c.requires.before (omega (arith, c.requires.b))) (lit≤ tt))

pub floor_shift8-filtered-requires-clause-a : goal.floor_shift8-filtered-requires-clause-a
floor_shift8-filtered-requires-clause-a c =
    rw (c.difference8-step.ensures, c.short_multiple8.ensures, c.short_multiple8-2.ensures, to_z-of_z c.ranges.a, to_z-of_z c.ranges.b)
    (small_step c.args.a c.args.b c.args.now.now c.args.before.now (omega arith) c.requires.a c.requires.b c.requires.now c.requires.before)

pub at_most8-requires : goal.at_most8-requires
at_most8-requires c =
    rw (c.floor_shift8-filtered.ensures, c.difference8-step.ensures, c.short_multiple8.ensures, c.short_multiple8-2.ensures, to_z-of_z c.ranges.a, to_z-of_z c.ranges.b)
    (AllBelow-floor _ 1024 (2 ^ 62) (small_step c.args.a c.args.b c.args.now.now c.args.before.now (omega arith) c.requires.a c.requires.b c.requires.now c.requires.before))

pub at_least8-requires : goal.at_least8-requires
at_least8-requires c =
    let most : c.at_most8.result ≡ map (λ x. int_min x (pos 268435455)) c.floor_shift8-filtered.result = c.at_most8.ensures in
    rw (most, c.floor_shift8-filtered.ensures, c.difference8-step.ensures, c.short_multiple8.ensures, c.short_multiple8-2.ensures, to_z-of_z c.ranges.a, to_z-of_z c.ranges.b)
    (AllBelow-min _ (pos 268435455) (2 ^ 62) (AllBelow-floor _ 1024 (2 ^ 62) (small_step c.args.a c.args.b c.args.now.now c.args.before.now (omega arith) c.requires.a c.requires.b c.requires.now c.requires.before)) (omega arith))

pub returns : goal.returns
returns c =
    let least : c.at_least8.result ≡ map (λ x. int_max x (neg_ℤ (pos 268435455))) c.at_most8.result = c.at_least8.ensures in
    let most : c.at_most8.result ≡ map (λ x. int_min x (pos 268435455)) c.floor_shift8-filtered.result = c.at_most8.ensures in
    rw (least, most, c.floor_shift8-filtered.ensures, c.difference8-step.ensures, c.short_multiple8.ensures, c.short_multiple8-2.ensures, to_z-of_z c.ranges.a, to_z-of_z c.ranges.b)
    (filter_by_lane c.args.a c.args.b c.args.now.now c.args.before.now)
