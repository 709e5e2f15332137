use Rattle.mho_zone.proofs.tests.the_greatest_values_do_not_wrap.Given as goal

abbrev pub ghosts-inside : goal.ghosts-inside
ghosts-inside a b = record { name = b.blank.name; parts = b.blank.parts }
