use Rattle.std.specs.Prelude.{◌≡◌}
use Rattle.room_io.specs.Mem.{mem_state}
use Rattle.relay_tests.proofs.tests.runs.note_fails.Given as goal

abbrev pub invariant-loop-slot : goal.invariant-loop-slot
invariant-loop-slot l = mem_state l.room ≡ mem_state l.initial.room
