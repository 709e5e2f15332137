use Rattle.frame_tests.proofs.tests.elements.heads_have_one_tag_byte_and_a_definite_length.Given as goal

abbrev pub ghosts-first_head : goal.ghosts-first_head
ghosts-first_head a b = record { name = b.blank.name; parts = b.blank.parts }
