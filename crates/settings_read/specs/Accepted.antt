-- Which settings a file spells, or the first refusal that the walk over its tree meets.
-- The file is a TOML document; a key stands for its whole table, which may be inline, and a list of tables
-- for either spelling. Each table of the file has a module of its own, and its keys stand there in the walk's order:
-- TopTable, LineList, LineTable, MimicTable, SwingTable, FuseTable, LoadTable, GooseTable, ZoneList, ZoneKeys,
-- ZoneTableV1 and ZoneTableV2.
use Rattle.std.specs.Prelude.{ℕ, codes, nat_le, if◌then◌else◌, List, [], length, Option, None}
use Rattle.std.specs.Str.{is_utf8}
use Rattle.toml.specs.Data.{Members}
use Rattle.toml.specs.Parse.{parse_document}
use Rattle.relay_settings.specs.Settings.{PlainSettings}
use Rattle.settings_read.specs.Walk.{Answer, ◌>>=◌, holds, there, Place}
use Rattle.settings_read.specs.TopTable.{settings_at}

-- the tree of the bytes; bytes that are no UTF-8 have none
abbrev pub tree : List ℕ → Option Members
tree bytes = if is_utf8 bytes then parse_document bytes else None

abbrev pub top_of : Members → Place
top_of ms = record { name = codes "top"; prefix = []; table = ms }

-- what the bytes of a settings file are
unfoldable pub accepted : List ℕ → Answer PlainSettings
accepted bytes = do
  _ ← holds (nat_le (length bytes) 1048576) 1 (codes "file")
  ms ← there (tree bytes) 2 (codes "file")
  settings_at (top_of ms)
