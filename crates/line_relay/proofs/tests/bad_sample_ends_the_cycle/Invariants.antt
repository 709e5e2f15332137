use Rattle.line_relay.proofs.tests.bad_sample_ends_the_cycle.Given as goal

abbrev pub ghosts-told_of : goal.ghosts-told_of
ghosts-told_of a b = record { name = b.blank.name; parts = b.blank.parts }
