-- What a station holds after what it heard, the newest first.
use Rattle.std.specs.Prelude.{ℕ, List}
use Rattle.sv_frame.specs.Asdu.{PlainAsdu}
use Rattle.relay_settings.specs.Settings.{PlainLine, PlainSettings}
use Rattle.line_bank.specs.Banks.{HaveHeard, IsTold as IsToldBy}
use Rattle.line_relay.specs.Bursts.{PlainBurst}
use Rattle.line_relay.specs.KeptLine.{StandsFor as LineStandsFor}
use Rattle.line_relay.specs.declared.line.Line.{Line}
use Rattle.station.specs.Told.{tells_by}
use Rattle.station.specs.declared.station.Station.{Station}

abbrev pub lines_of : Station → List Line
lines_of station = station.lines.items

abbrev pub frames_of : Station → ℕ
frames_of station = station.frames

abbrev pub heard_of : Station → ℕ
heard_of station = station.heard

-- a line of these settings after its own of the sample sets
abbrev pub Holds : PlainSettings → PlainLine → List PlainAsdu → Line → Type 0
Holds settings line asdus held = LineStandsFor settings.common line asdus held

-- the station of these settings, whose svIDs differ: each line after its own of the sample sets
abbrev pub StandsFor : PlainSettings → List PlainAsdu → Station → Type 0
StandsFor settings past station = HaveHeard (Holds settings) settings.lines past (lines_of station)

-- the line at this place owns the newest of the sample sets, and this is what it tells of it
abbrev pub IsTold : PlainSettings → List PlainAsdu → ℕ → PlainBurst → Type 0
IsTold settings past place burst = IsToldBy (tells_by settings) settings.lines past place burst
