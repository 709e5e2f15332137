use Rattle.std.proofs.Common.{refl, arith}
use Rattle.sample_windows.specs.Below.{any_below}
use Rattle.swing_block.specs.Swinging.{was_declared}
use Rattle.swing_block.proofs.swing.Swing.clear.Goals as goal

pub returns : goal.returns
unfolding was_declared any_below
returns c s rate takes stands = record { pass = stands.pass; most = stands.most; between = omega arith; age = refl }
