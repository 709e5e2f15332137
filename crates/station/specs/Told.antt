-- What a station tells of the newest of the sample sets that it heard: its owner's burst, over that line's own of them alone.
use Rattle.std.specs.Prelude.{List, Option}
use Rattle.sv_frame.specs.Asdu.{PlainAsdu}
use Rattle.relay_settings.specs.Settings.{PlainLine, PlainSettings}
use Rattle.line_bank.specs.Banks.{TellsOf, told as told_of}
use Rattle.line_relay.specs.Bursts.{PlainBurst, burst}

-- a line, and its burst
abbrev pub Told : Type 0
Told = TellsOf PlainBurst

-- what a line of these settings tells of the newest of its own sample sets
abbrev pub tells_by : PlainSettings → PlainLine → List PlainAsdu → PlainBurst
tells_by settings line asdus = burst settings.common line asdus

abbrev pub told : PlainSettings → List PlainAsdu → Option Told
told settings past = told_of (tells_by settings) settings.lines past
