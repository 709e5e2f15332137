use Rattle.settings_read.proofs.goose.only_goose_keys.Goals as goal

pub returns : goal.returns
returns c = c.only.ensures
