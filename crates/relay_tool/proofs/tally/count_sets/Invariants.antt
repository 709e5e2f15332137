use Rattle.std.proofs.Common.{◌≡◌, ◌+◌, ◌++◌, List, take, reverse}
use Rattle.sv_frame.specs.Asdu.{PlainAsdu, plain_asdus}
use Rattle.relay_settings.specs.Settings.{PlainSettings}
use Rattle.station.specs.KeptStation.{StandsFor, frames_of, heard_of}
use Rattle.relay_tool.specs.KeptTally.{Counts, IsFew}
use Rattle.relay_tool.proofs.tally.count_sets.Given as goal

abbrev pub invariant-loop-set : goal.invariant-loop-set
invariant-loop-set g l = record {
  few : IsFew (heard_of l.station) l.count;
  heard : heard_of l.station ≡ heard_of l.fn.station + l.set-index;
  frames : frames_of l.station ≡ frames_of l.fn.station;
  stands : (settings : PlainSettings) (past : List PlainAsdu) → StandsFor settings past l.fn.station → StandsFor settings (reverse (take l.set-index (plain_asdus l.sets)) ++ past) l.station;
  counts : (settings : PlainSettings) (past : List PlainAsdu) → StandsFor settings past l.fn.station → Counts settings past l.fn.count →
      Counts settings (reverse (take l.set-index (plain_asdus l.sets)) ++ past) l.count;
}
