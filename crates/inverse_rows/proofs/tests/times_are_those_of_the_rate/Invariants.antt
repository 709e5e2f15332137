use Rattle.inverse_rows.proofs.tests.times_are_those_of_the_rate.Given as goal

abbrev pub ghosts-log_at_4000 : goal.ghosts-log_at_4000
ghosts-log_at_4000 a b = record { name = b.blank.name; parts = b.blank.parts }
