use Rattle.memory_volt.proofs.tests.memory_holds_the_voltage_of_a_whole_cycle_before.Given as goal

abbrev pub ghosts-answers : goal.ghosts-answers
ghosts-answers a b = record { name = b.blank.name; parts = b.blank.parts }
