use Rattle.supervise.proofs.NumberedFuseLemmas.{is_blown_numbered}
use Rattle.supervise.proofs.laws.show_blows_by_number.Goals as goal

pub returns : goal.returns
returns g c number ready u2_high i2_low s rate past never rises =
    is_blown_numbered number ready u2_high i2_low never past rises s rate
