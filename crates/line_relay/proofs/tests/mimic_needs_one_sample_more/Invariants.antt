use Rattle.line_relay.proofs.tests.mimic_needs_one_sample_more.Given as goal

abbrev pub ghosts-told_of : goal.ghosts-told_of
ghosts-told_of a b = record { name = b.blank.name; parts = b.blank.parts }
