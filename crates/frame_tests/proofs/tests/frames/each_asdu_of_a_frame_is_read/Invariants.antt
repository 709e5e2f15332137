use Rattle.frame_tests.proofs.tests.frames.each_asdu_of_a_frame_is_read.Given as goal

abbrev pub ghosts-answer : goal.ghosts-answer
ghosts-answer a b = record { name = b.blank.name; parts = b.blank.parts }
