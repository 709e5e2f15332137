use Rattle.guard_rows.proofs.tests.faults_give_their_lines.Given as goal

abbrev pub ghosts-log_of : goal.ghosts-log_of
ghosts-log_of a b = record { name = b.blank.name; parts = b.blank.parts }
