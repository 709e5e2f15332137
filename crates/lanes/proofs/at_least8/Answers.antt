use Rattle.std.proofs.Common.{◌≡◌, length, arith}
use Rattle.lanes.proofs.LaneLemmas.{max_lanes, Each1-fits}
use Rattle.lanes.proofs.at_least8.Goals as goal

pub returns : goal.returns
returns c =
    let long : length c.args.a.now ≡ 8 = omega arith in
    max_lanes c.args.a.now 8 c.args.least long (Each1-fits c.args.a.now c.requires) c.ranges.least
