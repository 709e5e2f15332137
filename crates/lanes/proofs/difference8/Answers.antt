use Rattle.std.proofs.Common.{◌+◌, ◌-◌, ◌%◌, ◌^◌, ◌-ℤ◌}
use Rattle.lanes.proofs.LaneLemmas.{lanes_are, both, Both, wrapped_difference}
use Rattle.lanes.proofs.difference8.Goals as goal

pub returns : goal.returns
returns c = lanes_are (λ m n. (m + (2 ^ 64 - n)) % 2 ^ 64) (λ x y. x -ℤ y) (Both (2 ^ 62) (2 ^ 62)) wrapped_difference c.args.a.now c.args.b.now (both c.args.a.now c.args.b.now (2 ^ 62) (2 ^ 62) c.requires.a c.requires.b)
