use Rattle.std.proofs.Common.{refl, arith}
use Rattle.sample_windows.specs.Below.{any_below}
use Rattle.swing_block.specs.Swinging.{was_declared}
use Rattle.swing_block.proofs.swing.Swing.new.Goals as goal

pub returns : goal.returns
unfolding was_declared any_below
returns c = record { pass = c.samples_of.ensures; most = c.samples_of-2.ensures; between = omega arith; age = refl }
