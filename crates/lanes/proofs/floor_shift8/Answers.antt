use Rattle.std.proofs.Common.{◌≡◌, ◌^◌, ◌∙◌, length, replicate, ℤ, pos, to_z, of_z, arith}
use Rattle.std.specs.Int.{w64}
use Rattle.std.proofs.lemmas.Simd.{zip2_splat}
use lib.Signed.{shr_z}
use Rattle.relay_num.specs.Numbers.{floor_div}
use Rattle.lanes.proofs.LaneLemmas.{lanes_are, shifted, Shifted, all_shifted, Each1-fits}
use Rattle.lanes.proofs.floor_shift8.Goals as goal

pub returns : goal.returns
returns c =
    let long : length c.args.a.now ≡ 8 = omega arith in
    rw c.from.ensures (lanes_are (λ m n. of_z w64 (shr_z (to_z w64 m) (2 ^ n))) (λ x y. floor_div x (2 ^ c.args.bits)) (Shifted c.args.bits) (shifted c.args.bits)
    c.args.a.now (replicate 8 (pos c.args.bits)) (all_shifted c.args.bits c.args.a.now 8 (Each1-fits c.args.a.now c.requires.a))
    ∙ zip2_splat (λ (x : ℤ) (y : ℤ). floor_div x (2 ^ c.args.bits)) c.args.a.now 8 (pos c.args.bits) long)
