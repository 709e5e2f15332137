use Rattle.std.proofs.Common.{◌≡◌, [], length, drop}
use Rattle.std.specs.List.{All}
use Rattle.relay_settings.specs.Ranges.{IsZone}
use Rattle.settings_read.specs.View.{plain_place}
use Rattle.toml.specs.View.{items_view}
use Rattle.settings_read.specs.Walk.{each}
use Rattle.settings_read.specs.ZoneList.{zone_after}
use Rattle.settings_read.proofs.zones.zones_from.Given as goal

abbrev pub invariant-loop-item : goal.invariant-loop-item
invariant-loop-item l = record {
  as_far : length l.zones.items ≡ l.item-index;
  rest : each (zone_after l.version (plain_place l.line)) l.zones.items (items_view (drop l.item-index l.items)) ≡ each (zone_after l.version (plain_place l.line)) [] (items_view l.items);
  ranges : All IsZone l.zones.items;
}
