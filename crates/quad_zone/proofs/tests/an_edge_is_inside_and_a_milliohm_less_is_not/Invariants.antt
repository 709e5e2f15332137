use Rattle.quad_zone.proofs.tests.an_edge_is_inside_and_a_milliohm_less_is_not.Given as goal

abbrev pub ghosts-inside : goal.ghosts-inside
ghosts-inside a b = record { name = b.blank.name; parts = b.blank.parts }
