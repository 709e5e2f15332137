use Rattle.zone_shape.proofs.tests.a_mho_alone_asks_for_a_polarising_voltage.Given as goal

abbrev pub ghosts-inside : goal.ghosts-inside
ghosts-inside a b = record { name = b.blank.name; parts = b.blank.parts }
