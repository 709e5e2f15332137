use Rattle.settings_read.proofs.zone_v2.only_zone_keys.Goals as goal

pub returns : goal.returns
returns c = c.only.ensures
