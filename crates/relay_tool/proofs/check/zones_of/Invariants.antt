use Rattle.std.proofs.Common.{◌≡◌, ◌*◌, ◌≤◌, take}
use Rattle.relay_settings.specs.Settings.{plain_lines}
use Rattle.relay_tool.specs.Run.{zones_in}
use Rattle.relay_tool.proofs.check.zones_of.Given as goal

abbrev pub invariant-loop-line : goal.invariant-loop-line
invariant-loop-line l = record {
  counted : l.zones ≡ zones_in (plain_lines (take l.line-index l.lines));
  few : l.zones ≤ 5 * l.line-index;
}
