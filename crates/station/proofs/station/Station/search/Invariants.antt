use Rattle.std.proofs.Common.{ℕ, ◌≡◌, ◌<◌, List, false, slice_index_or}
use Rattle.relay_settings.specs.Settings.{PlainSettings, PlainLine}
use Rattle.sv_frame.specs.Asdu.{PlainAsdu, plain_asdu}
use Rattle.line_bank.specs.Owners.{owns}
use Rattle.station.specs.KeptStation.{StandsFor}
use Rattle.station.proofs.station.Station.search.Given as goal

abbrev pub invariant-loop-place : goal.invariant-loop-place
invariant-loop-place l = (settings : PlainSettings) (past : List PlainAsdu) → StandsFor settings past l.self →
    (p : ℕ) (d : PlainLine) → p < l.place → owns (slice_index_or settings.lines p d) (plain_asdu l.a) ≡ false
