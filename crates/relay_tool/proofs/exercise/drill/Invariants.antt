use Rattle.relay_tool.proofs.exercise.drill.Given as goal

abbrev pub ghosts-run_plan : goal.ghosts-run_plan
ghosts-run_plan g a = record { name = a.blank.name; parts = a.blank.parts }
