use Rattle.cycle_phasor.proofs.tests.full_windows_have_the_phasors_of_their_waves.Given as goal

abbrev pub ghosts-slid : goal.ghosts-slid
ghosts-slid a b = record { name = b.blank.name; parts = b.blank.parts }
