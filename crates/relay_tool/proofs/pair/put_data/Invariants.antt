use Rattle.std.proofs.Common.{◌-◌, ◌≤◌, ℕ, List, map, take}
use Rattle.std.specs.Prelude.{Ok}
use Rattle.room_io.specs.Room.{IsReadyOut}
use Rattle.room_io.specs.declared.room.Slot.TheVariants.{Data}
use Rattle.relay_settings.specs.declared.types.Common.{Common}
use Rattle.relay_settings.specs.Settings.{PlainLine}
use Rattle.sv_frame.specs.Asdu.{PlainAsdu}
use Rattle.comtrade_write.specs.KeptRecorder.{StandsFor}
use Rattle.comtrade_write.specs.Recordings.{data_of}
use Rattle.relay_tool.specs.Output.{data_item}
use Rattle.relay_tool.specs.Making.{Makes, OnlyWrites}
use Rattle.relay_tool.proofs.pair.put_data.Given as goal

abbrev pub invariant-loop-done : goal.invariant-loop-done
invariant-loop-done g l = record {
  within : l.done ≤ l.count;
  ready : IsReadyOut Data (g.R.Room.state l.room);
  only : OnlyWrites (g.R.Room.state l.fn.room) (g.R.Room.state l.room);
  made : (common : Common) (settings : PlainLine) (k : ℕ) (past : List PlainAsdu) → StandsFor common settings k past l.recorder →
      Makes (map (data_item settings.name) (take l.done (data_of common settings k past))) (g.R.Room.state l.fn.room) (g.R.Room.state l.room) (Ok tt);
}

abbrev pub decreases-loop-done : goal.decreases-loop-done
decreases-loop-done g l = l.count - l.done
