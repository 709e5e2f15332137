-- What the lines of a replay hold.
use Rattle.std.specs.Prelude.{◌≡◌, List}
use Rattle.sv_frame.specs.Asdu.{PlainAsdu}
use Rattle.relay_settings.specs.Settings.{PlainSettings}
use Rattle.station.specs.KeptStation.{StandsFor}
use Rattle.station.specs.declared.station.Station.{Station}
use Rattle.relay_tool.specs.Output.{Tells, heard_items}
use Rattle.relay_tool.specs.declared.lines.Lines.{Lines}

abbrev pub station_of : Lines → Station
station_of lines = lines.station

-- by some settings each sample set is told as the lines of a replay tell it, and these were heard
pub record TellsAs (lines : Lines) (tells : Tells) (past : List PlainAsdu) : Type 0 where
  pub settings : PlainSettings
  pub is : heard_items settings ≡ tells
  pub stands : StandsFor settings past (station_of lines)
