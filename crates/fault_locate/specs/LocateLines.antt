-- Who tells of a sample set: the line that owns it, by that line's own sample sets alone.
use Rattle.std.specs.Prelude.{List, Option}
use Rattle.relay_settings.specs.Settings.{PlainLine, PlainSettings}
use Rattle.sv_frame.specs.Asdu.{PlainAsdu}
use Rattle.line_bank.specs.Banks.{TellsOf, told}
use Rattle.fault_locate.specs.declared.located.Located.{Located}
use Rattle.fault_locate.specs.Locating.{located}

-- what a line of these settings tells of the newest of its own sample sets
abbrev pub tells_by : PlainSettings → PlainLine → List PlainAsdu → Option Located
tells_by settings line asdus = located settings.common line asdus

-- what the lines tell of the newest of the sample sets heard: its owner's located fault, if it brings one, and nothing where
-- no line owns it
abbrev pub located_told : PlainSettings → List PlainAsdu → Option (TellsOf (Option Located))
located_told settings past = told (tells_by settings) settings.lines past
