use Rattle.mho_zone.proofs.tests.a_loop_on_the_circle_is_outside.Given as goal

abbrev pub ghosts-inside : goal.ghosts-inside
ghosts-inside a b = record { name = b.blank.name; parts = b.blank.parts }
