use Rattle.std.proofs.Common.{◌≡◌, length}
use Rattle.relay_settings.specs.Settings.{plain_settings}
use Rattle.line_bank.proofs.BankLaws.{AreNew}
use Rattle.line_relay.specs.KeptLine.{last_of}
use Rattle.station.specs.KeptStation.{Holds}
use Rattle.station.proofs.station.Station.new.Given as goal

abbrev pub invariant-loop-settings : goal.invariant-loop-settings
invariant-loop-settings l = record {
  count : length l.lines.items ≡ l.settings-index;
  made : AreNew (Holds (plain_settings l.s)) last_of l.s.lines.items l.lines.items l.settings-index;
}
