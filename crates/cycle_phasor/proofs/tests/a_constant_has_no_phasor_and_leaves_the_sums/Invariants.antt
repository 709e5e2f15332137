use Rattle.cycle_phasor.proofs.tests.a_constant_has_no_phasor_and_leaves_the_sums.Given as goal

abbrev pub ghosts-slid : goal.ghosts-slid
ghosts-slid a b = record { name = b.blank.name; parts = b.blank.parts }
