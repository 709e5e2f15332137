use Rattle.zone_shape.proofs.tests.a_loop_without_its_part_is_outside.Given as goal

abbrev pub ghosts-in_zone : goal.ghosts-in_zone
ghosts-in_zone a b = record { name = b.blank.name; parts = b.blank.parts }
