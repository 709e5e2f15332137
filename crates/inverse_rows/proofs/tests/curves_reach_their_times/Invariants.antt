use Rattle.inverse_rows.proofs.tests.curves_reach_their_times.Given as goal

abbrev pub ghosts-log_of : goal.ghosts-log_of
ghosts-log_of a b = record { name = b.blank.name; parts = b.blank.parts }
