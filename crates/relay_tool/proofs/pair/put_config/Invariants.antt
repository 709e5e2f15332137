use Rattle.std.proofs.Common.{◌≡◌, ◌-◌, ◌<◌, ◌≤◌, ℕ, List, map, length, take}
use Rattle.std.specs.Prelude.{Ok}
use Rattle.room_io.specs.Room.{IsReadyOut}
use Rattle.room_io.specs.declared.room.Slot.TheVariants.{Config}
use Rattle.relay_settings.specs.declared.types.Common.{Common}
use Rattle.relay_settings.specs.Settings.{PlainLine}
use Rattle.sv_frame.specs.Asdu.{PlainAsdu}
use Rattle.comtrade_write.specs.KeptRecorder.{StandsFor}
use Rattle.comtrade_write.specs.Recordings.{config_of}
use Rattle.relay_tool.specs.Output.{config_item}
use Rattle.relay_tool.specs.Making.{Makes, OnlyWrites}
use Rattle.relay_tool.proofs.pair.put_config.Given as goal

abbrev pub invariant-loop-done : goal.invariant-loop-done
invariant-loop-done g l = record {
  within : l.done ≤ 17;
  long : (common : Common) (settings : PlainLine) (k : ℕ) (past : List PlainAsdu) → StandsFor common settings k past l.recorder → 0 < l.done → length (config_of common settings k past) ≡ 17;
  ready : IsReadyOut Config (g.R.Room.state l.room);
  only : OnlyWrites (g.R.Room.state l.fn.room) (g.R.Room.state l.room);
  made : (common : Common) (settings : PlainLine) (k : ℕ) (past : List PlainAsdu) → StandsFor common settings k past l.recorder →
      Makes (map (config_item settings.name) (take l.done (config_of common settings k past))) (g.R.Room.state l.fn.room) (g.R.Room.state l.room) (Ok tt);
}

abbrev pub decreases-loop-done : goal.decreases-loop-done
decreases-loop-done g l = 17 - l.done
