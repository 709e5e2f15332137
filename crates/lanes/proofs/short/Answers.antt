use Rattle.std.proofs.Common.{◌≡◌, ◌^◌, length, arith}
use Rattle.lanes.proofs.LaneLemmas.{kept_lanes, Each1-AllBelow}
use Rattle.lanes.proofs.short.Goals as goal

pub returns : goal.returns
returns c =
    let long : length c.args.a ≡ 8 = omega arith in
    kept_lanes c.args.a 8 long (Each1-AllBelow c.args.a (2 ^ 31) c.requires)
