-- The zones of a line, by the version of the settings.
use Rattle.std.specs.Prelude.{◌+◌, codes, nat_le, List, [], length}
use Rattle.toml.specs.Data.{Data, as_array, as_table}
use Rattle.relay_settings.specs.declared.types.ZoneSettings.{ZoneSettings}
use Rattle.settings_read.specs.declared.version.Version.{Version}
use Rattle.settings_read.specs.declared.version.Version.TheVariants.{One, Two}
use Rattle.settings_read.specs.Walk.{Answer, ◌>>=◌, holds, there, Place, path, found, or_default, numbered, are_tables, item_count, each}
use Rattle.settings_read.specs.ZoneTableV1.{zone_v1_at}
use Rattle.settings_read.specs.ZoneTableV2.{zone_v2_at}

abbrev pub zone_at : Version → Place → Answer ZoneSettings
zone_at One here = zone_v1_at here
zone_at Two here = zone_v2_at here

-- the next zone of a line
unfoldable pub zone_after : Version → Place → List ZoneSettings → Data → Answer ZoneSettings
zone_after version line done d = do
  ms ← there (as_table d) 5 (path line (codes "zone"))
  zone_at version (numbered line (codes "zone") (length done + 1) ms)

unfoldable pub zones_of : Version → Place → Data → Answer (List ZoneSettings)
zones_of version line d = do
  items ← there (as_array d) 5 (path line (codes "zone"))
  _ ← holds (are_tables items) 5 (path line (codes "zone"))
  _ ← holds (nat_le (item_count items) 5) 10 (path line (codes "zone"))
  each (zone_after version line) [] items

-- where the key is missing there are none
unfoldable pub zones_at : Version → Place → Answer (List ZoneSettings)
zones_at version line = or_default [] (found line (codes "zone")) (zones_of version line)
