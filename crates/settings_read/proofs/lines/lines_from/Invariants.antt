use Rattle.std.proofs.Common.{◌≡◌, [], length, drop}
use Rattle.settings_read.specs.View.{plain_place}
use Rattle.relay_settings.specs.Settings.{plain_lines}
use Rattle.toml.specs.View.{items_view}
use Rattle.settings_read.specs.Walk.{each}
use Rattle.settings_read.specs.LineList.{line_after}
use Rattle.settings_read.specs.Parts.{AreLines}
use Rattle.settings_read.proofs.lines.lines_from.Given as goal

abbrev pub invariant-loop-item : goal.invariant-loop-item
invariant-loop-item l = record {
  as_far : length l.lines.items ≡ l.item-index;
  rest : each (line_after l.version (plain_place l.top)) (plain_lines l.lines.items) (items_view (drop l.item-index l.items)) ≡ each (line_after l.version (plain_place l.top)) [] (items_view l.items);
  ranges : AreLines l.lines.items;
}
