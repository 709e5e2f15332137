use Rattle.sample_ring.proofs.tests.two_items_are_kept_and_the_third_push_answers_the_first.Given as goal

abbrev pub ghosts-answers : goal.ghosts-answers
ghosts-answers a b = record { name = b.blank.name; parts = b.blank.parts }
