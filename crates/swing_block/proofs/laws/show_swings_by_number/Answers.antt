use Rattle.swing_block.proofs.NumberedSwingLemmas.{is_swing_numbered}
use Rattle.swing_block.proofs.laws.show_swings_by_number.Goals as goal

pub returns : goal.returns
returns g c number ready unbalanced place s rate past never rises =
    is_swing_numbered number ready unbalanced place never past rises s rate
