use Rattle.std.proofs.Common.{◌≡◌, length, arith}
use Rattle.lanes.proofs.LaneLemmas.{min_lanes, Each1-fits}
use Rattle.lanes.proofs.at_most8.Goals as goal

pub returns : goal.returns
returns c =
    let long : length c.args.a.now ≡ 8 = omega arith in
    min_lanes c.args.a.now 8 c.args.most long (Each1-fits c.args.a.now c.requires) c.ranges.most
