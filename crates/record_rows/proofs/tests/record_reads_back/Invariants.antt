use Rattle.record_rows.proofs.tests.record_reads_back.Given as goal

abbrev pub ghosts-recorder_of : goal.ghosts-recorder_of
ghosts-recorder_of a b = record { name = b.blank.name; parts = b.blank.parts }
