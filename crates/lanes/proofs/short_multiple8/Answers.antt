use Rattle.std.proofs.Common.{◌≡◌, ◌*◌, ◌%◌, ◌^◌, ◌*ℤ◌, ◌∙◌, List, ℤ, length, map, arith, replicate, lit≤, to_z, of_z, to_z-of_z}
use Rattle.std.specs.Int.{w64}
use Rattle.std.proofs.lemmas.Simd.{zip2_splat}
use Rattle.relay_num.specs.Bounds.{AllBelow}
use Rattle.lanes.proofs.LaneLemmas.{lanes_are, both, Both, wrapped_product, AllBelow-replicate, AllBelow-weaker, Each1-fits, read_back}
use Rattle.lanes.proofs.short_multiple8.Goals as goal

same : (xs : List ℤ) → AllBelow xs (2 ^ 31) → map (to_z w64) (map (of_z w64) xs) ≡ xs
same xs h = read_back xs (Each1-fits xs (AllBelow-weaker xs (2 ^ 31) (2 ^ 62) h (lit≤ tt)))

still_short : (xs : List ℤ) → AllBelow xs (2 ^ 31) → AllBelow (map (to_z w64) (map (of_z w64) xs)) (2 ^ 31)
still_short xs h = rw (same xs h) h

pub short-requires : goal.short-requires
short-requires c = still_short c.args.a.now c.requires.a

pub short-requires-2 : goal.short-requires-2
short-requires-2 c = still_short (replicate 8 c.args.k) (AllBelow-replicate 8 c.args.k (2 ^ 31) c.requires.k)

pub returns : goal.returns
returns c =
    let splat = AllBelow-replicate 8 c.args.k (2 ^ 31) c.requires.k in
    let long : length c.args.a.now ≡ 8 = omega arith in
    rw (c.short.ensures, c.short-2.ensures, same c.args.a.now c.requires.a, to_z-of_z c.ranges.k)
    (lanes_are (λ m n. (m * n) % 2 ^ 64) (λ x y. x *ℤ y) (Both (2 ^ 31) (2 ^ 31)) (wrapped_product (2 ^ 31) (2 ^ 31) (lit≤ tt) (lit≤ tt) (lit≤ tt)) c.args.a.now (replicate 8 c.args.k) (both c.args.a.now (replicate 8 c.args.k) (2 ^ 31) (2 ^ 31) c.requires.a splat)
    ∙ zip2_splat (λ x y. x *ℤ y) c.args.a.now 8 c.args.k long)
