use Rattle.relay_tests.proofs.tests.plain.sums_anew_agree_with_the_front.Given as goal

abbrev pub ghosts-compare : goal.ghosts-compare
ghosts-compare a b = record { name = b.blank.name; parts = b.blank.parts }
