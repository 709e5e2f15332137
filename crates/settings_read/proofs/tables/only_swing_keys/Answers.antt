use Rattle.settings_read.proofs.tables.only_swing_keys.Goals as goal

pub returns : goal.returns
returns c = c.only.ensures
