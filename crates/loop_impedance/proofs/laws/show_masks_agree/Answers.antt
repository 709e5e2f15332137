use Rattle.loop_impedance.proofs.MaskLemmas.{masks_agree}
use Rattle.loop_impedance.proofs.laws.show_masks_agree.Goals as goal

pub returns : goal.returns
returns c = masks_agree
