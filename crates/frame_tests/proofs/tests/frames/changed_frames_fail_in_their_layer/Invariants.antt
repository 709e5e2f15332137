use Rattle.frame_tests.proofs.tests.frames.changed_frames_fail_in_their_layer.Given as goal

abbrev pub ghosts-answer : goal.ghosts-answer
ghosts-answer a b = record { name = b.blank.name; parts = b.blank.parts }
