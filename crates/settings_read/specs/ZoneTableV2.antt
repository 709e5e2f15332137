-- The table `zone` of a line in version 2: a part for the ground loops, a part for the phase loops, or both.
use Rattle.std.specs.Prelude.{ℕ, codes, ◌||◌, if◌then◌else◌, List, [], ◌∷◌, is_some, Ok}
use Rattle.relay_settings.specs.declared.types.ZoneSettings.{ZoneSettings}
use Rattle.relay_settings.specs.declared.types.ZonePart.{ZonePart}
use Rattle.settings_read.specs.Walk.{Answer, ◌>>=◌, holds, Place, path, found, only, required, count, boolean, word, optional_table}
use Rattle.settings_read.specs.ZoneKeys.{quad_of_word, dir_of_word, shape_at, part_of, zone_of}

abbrev pub mho_part_keys : List (List ℕ)
mho_part_keys = codes "shape" ∷ codes "reach_r" ∷ codes "reach_x" ∷ codes "delay_ms" ∷ []

abbrev pub quad_part_keys : List (List ℕ)
quad_part_keys = codes "shape" ∷ codes "reach_r" ∷ codes "reach_x" ∷ codes "tilt" ∷ codes "slope" ∷ codes "back_x" ∷ codes "delay_ms" ∷ []

-- the table `ground` or `phase` of a zone
unfoldable pub part_at : Place → Answer ZonePart
part_at here = do
  quad ← word 8 quad_of_word here (codes "shape")
  _ ← only here (if quad then quad_part_keys else mho_part_keys)
  shape ← shape_at here quad
  delay_ms ← required (count 0 60000) here (codes "delay_ms")
  Ok (part_of shape delay_ms)

abbrev pub zone_keys : List (List ℕ)
zone_keys = codes "dir" ∷ codes "trip" ∷ codes "swing_block" ∷ codes "load_block" ∷ codes "ground" ∷ codes "phase" ∷ []

unfoldable pub zone_v2_at : Place → Answer ZoneSettings
zone_v2_at here = do
  _ ← only here zone_keys
  dir ← word 8 dir_of_word here (codes "dir")
  trip ← required boolean here (codes "trip")
  swing_block ← required boolean here (codes "swing_block")
  load_block ← required boolean here (codes "load_block")
  _ ← holds (is_some (found here (codes "ground")) || is_some (found here (codes "phase"))) 4 (path here (codes "ground"))
  to_ground ← optional_table part_at here (codes "ground")
  to_phase ← optional_table part_at here (codes "phase")
  Ok (zone_of to_ground to_phase dir trip swing_block load_block)
