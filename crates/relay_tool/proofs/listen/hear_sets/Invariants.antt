use Rattle.std.proofs.Common.{◌≡◌, ◌++◌, ◌+◌, ℕ, List, take, reverse}
use Rattle.sv_frame.specs.Asdu.{PlainAsdu, plain_asdus}
use Rattle.relay_settings.specs.declared.types.Common.{Common}
use Rattle.relay_settings.specs.Settings.{PlainLine}
use Rattle.comtrade_write.specs.KeptRecorder.{StandsFor, heard_of}
use Rattle.relay_tool.proofs.listen.hear_sets.Given as goal

abbrev pub invariant-loop-asdu : goal.invariant-loop-asdu
invariant-loop-asdu g l = record {
  heard : heard_of l.recorder ≡ heard_of l.fn.recorder + l.asdu-index;
  after : (common : Common) (settings : PlainLine) (k : ℕ) (past : List PlainAsdu) → StandsFor common settings k past l.fn.recorder →
      StandsFor common settings k (reverse (take l.asdu-index (plain_asdus l.asdus)) ++ past) l.recorder;
}
