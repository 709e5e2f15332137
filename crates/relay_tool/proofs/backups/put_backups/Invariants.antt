use Rattle.std.proofs.Common.{take, map}
use Rattle.std.specs.Prelude.{Ok}
use Rattle.room_io.specs.Room.{IsReadyOut}
use Rattle.room_io.specs.declared.room.Slot.TheVariants.{Log}
use Rattle.relay_tool.specs.Output.{backup_item}
use Rattle.relay_tool.specs.Making.{Makes}
use Rattle.relay_tool.proofs.backups.put_backups.Given as goal

abbrev pub invariant-loop-event : goal.invariant-loop-event
invariant-loop-event g l = record {
  log : IsReadyOut Log (g.R.Room.state l.room);
  made : Makes (map (backup_item l.name) (take l.event-index l.events)) (g.R.Room.state l.fn.room) (g.R.Room.state l.room) (Ok tt);
}
