use Rattle.settings_read.proofs.top.only_top_keys.Goals as goal

pub returns : goal.returns
returns c = c.only.ensures
