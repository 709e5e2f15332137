-- The table `zone` of a line in version 1: one shape, its reaches and its delay, for all loops.
use Rattle.std.specs.Prelude.{ℕ, codes, if◌then◌else◌, List, [], ◌∷◌, Some, Ok}
use Rattle.relay_settings.specs.declared.types.ZoneSettings.{ZoneSettings}
use Rattle.settings_read.specs.Walk.{Answer, ◌>>=◌, Place, only, required, count, boolean, word}
use Rattle.settings_read.specs.ZoneKeys.{quad_of_word, dir_of_word, shape_at, part_of, zone_of}

abbrev pub mho_zone_keys : List (List ℕ)
mho_zone_keys = codes "shape" ∷ codes "dir" ∷ codes "reach_r" ∷ codes "reach_x" ∷ codes "delay_ms" ∷ codes "trip" ∷ codes "swing_block" ∷ codes "load_block" ∷ []

abbrev pub quad_zone_keys : List (List ℕ)
quad_zone_keys = codes "shape" ∷ codes "dir" ∷ codes "reach_r" ∷ codes "reach_x" ∷ codes "tilt" ∷ codes "slope" ∷ codes "back_x" ∷ codes "delay_ms" ∷ codes "trip" ∷ codes "swing_block" ∷ codes "load_block" ∷ []

-- its two parts are equal
unfoldable pub zone_v1_at : Place → Answer ZoneSettings
zone_v1_at here = do
  quad ← word 8 quad_of_word here (codes "shape")
  _ ← only here (if quad then quad_zone_keys else mho_zone_keys)
  dir ← word 8 dir_of_word here (codes "dir")
  shape ← shape_at here quad
  delay_ms ← required (count 0 60000) here (codes "delay_ms")
  trip ← required boolean here (codes "trip")
  swing_block ← required boolean here (codes "swing_block")
  load_block ← required boolean here (codes "load_block")
  Ok (zone_of (Some (part_of shape delay_ms)) (Some (part_of shape delay_ms)) dir trip swing_block load_block)
