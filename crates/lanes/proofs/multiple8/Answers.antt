use Rattle.std.proofs.Common.{◌≡◌, ◌*◌, ◌%◌, ◌^◌, ◌*ℤ◌, ◌∙◌, length, arith, replicate, lit≤}
use Rattle.std.proofs.lemmas.Simd.{zip2_splat}
use Rattle.lanes.proofs.LaneLemmas.{lanes_are, both, Both, wrapped_product, AllBelow-replicate}
use Rattle.lanes.proofs.multiple8.Goals as goal

pub returns : goal.returns
returns c =
    let long : length c.args.a.now ≡ 8 = omega arith in
    lanes_are (λ m n. (m * n) % 2 ^ 64) (λ x y. x *ℤ y) (Both (2 ^ 40) (2 ^ 20)) (wrapped_product (2 ^ 40) (2 ^ 20) (lit≤ tt) (lit≤ tt) (lit≤ tt)) c.args.a.now (replicate 8 c.args.k) (both c.args.a.now (replicate 8 c.args.k) (2 ^ 40) (2 ^ 20) c.requires.a (AllBelow-replicate 8 c.args.k (2 ^ 20) c.requires.k))
    ∙ zip2_splat (λ x y. x *ℤ y) c.args.a.now 8 c.args.k long
