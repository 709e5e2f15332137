use Rattle.room_io.specs.Room.{IsReadyIn}
use Rattle.room_io.specs.Mem.{mem_state}
use Rattle.room_io.specs.declared.room.Slot.TheVariants.{Capture}
use Rattle.room_tests.proofs.tests.an_open_input_keeps_what_it_has_left.Given as goal

abbrev pub invariant-loop-text : goal.invariant-loop-text
invariant-loop-text g l = IsReadyIn Capture (mem_state l.room)
