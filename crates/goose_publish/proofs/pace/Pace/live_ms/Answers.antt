use Rattle.std.proofs.Common.{arith}
use Rattle.goose_publish.specs.Offsets.{offset_ms}
use Rattle.goose_publish.proofs.pace.Pace.live_ms.Goals as goal

pub returns-clause-exact : goal.returns-clause-exact
unfolding offset_ms
returns-clause-exact c common k at = omega (arith, at.step)
