-- The lines of a file, whose names, svIDs and control block references differ.
use Rattle.std.specs.Prelude.{ℕ, ◌+◌, codes, nat_le, Bool, not, ◌&&◌, List, [], length, Ok}
use Rattle.std.specs.Str.{bytes_eq}
use Rattle.std.specs.List.{list_any}
use Rattle.toml.specs.Data.{Data, as_array, as_table}
use Rattle.relay_settings.specs.Settings.{PlainLine}
use Rattle.settings_read.specs.declared.version.Version.{Version}
use Rattle.settings_read.specs.Walk.{Answer, ◌>>=◌, holds, there, Place, path, found, numbered, are_tables, item_count, each}
use Rattle.settings_read.specs.LineTable.{line_at}

-- a line before this one has the same text
abbrev pub is_repeated : (PlainLine → List ℕ) → List PlainLine → PlainLine → Bool
is_repeated key done line = list_any (λ l. bytes_eq (key l) (key line)) done

-- the line at its place, whose texts differ from those of the lines before it
unfoldable pub new_line_at : Version → Place → List PlainLine → Answer PlainLine
new_line_at version here done = do
  line ← line_at version here
  _ ← holds (not (is_repeated (λ l. l.name) done line)) 9 (path here (codes "name"))
  _ ← holds (not (is_repeated (λ l. l.sv_id) done line)) 9 (path here (codes "sv_id"))
  _ ← holds (not (is_repeated (λ l. l.goose.gocb_ref) done line)) 9 (path here (codes "goose.gocb_ref"))
  Ok line

-- the next line
unfoldable pub line_after : Version → Place → List PlainLine → Data → Answer PlainLine
line_after version top done d = do
  ms ← there (as_table d) 5 (path top (codes "line"))
  new_line_at version (numbered top (codes "line") (length done + 1) ms) done

unfoldable pub lines_of : Version → Place → Answer (List PlainLine)
lines_of version top = do
  d ← there (found top (codes "line")) 8 (path top (codes "line"))
  items ← there (as_array d) 5 (path top (codes "line"))
  _ ← holds (nat_le 1 (item_count items) && nat_le (item_count items) 16) 8 (path top (codes "line"))
  _ ← holds (are_tables items) 5 (path top (codes "line"))
  each (line_after version top) [] items
