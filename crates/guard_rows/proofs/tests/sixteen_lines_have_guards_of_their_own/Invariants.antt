use Rattle.guard_rows.proofs.tests.sixteen_lines_have_guards_of_their_own.Given as goal

abbrev pub ghosts-sixteen_logs : goal.ghosts-sixteen_logs
ghosts-sixteen_logs a b = record { name = b.blank.name; parts = b.blank.parts }
