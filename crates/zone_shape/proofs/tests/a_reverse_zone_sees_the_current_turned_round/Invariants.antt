use Rattle.zone_shape.proofs.tests.a_reverse_zone_sees_the_current_turned_round.Given as goal

abbrev pub ghosts-inside : goal.ghosts-inside
ghosts-inside a b = record { name = b.blank.name; parts = b.blank.parts }
