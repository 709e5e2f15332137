-- The table `swing` of a line: the blinders of the power swing rule, the inner one inside the outer.
use Rattle.std.specs.Prelude.{pos, codes, int_lt, List, [], ◌∷◌, ℕ, Ok}
use Rattle.relay_settings.specs.declared.types.SwingSettings.{SwingSettings}
use Rattle.settings_read.specs.Walk.{Answer, ◌>>=◌, holds, Place, path, only, required, whole, count}

abbrev pub swing_keys : List (List ℕ)
swing_keys = codes "outer_r" ∷ codes "outer_x" ∷ codes "inner_r" ∷ codes "inner_x" ∷ codes "pass_ms" ∷ codes "max_ms" ∷ codes "i2_share" ∷ []

unfoldable pub swing_at : Place → Answer SwingSettings
swing_at here = do
  _ ← only here swing_keys
  outer_r ← required (whole (pos 1) (pos 1000000)) here (codes "outer_r")
  outer_x ← required (whole (pos 1) (pos 1000000)) here (codes "outer_x")
  inner_r ← required (whole (pos 1) (pos 1000000)) here (codes "inner_r")
  inner_x ← required (whole (pos 1) (pos 1000000)) here (codes "inner_x")
  pass_ms ← required (count 1 10000) here (codes "pass_ms")
  max_ms ← required (count 1 60000) here (codes "max_ms")
  i2_share ← required (count 0 1000) here (codes "i2_share")
  _ ← holds (int_lt inner_r outer_r) 11 (path here (codes "inner_r"))
  _ ← holds (int_lt inner_x outer_x) 11 (path here (codes "inner_x"))
  Ok (record { outer_r = outer_r; outer_x = outer_x; inner_r = inner_r; inner_x = inner_x; pass_ms = pass_ms; max_ms = max_ms; i2_share = i2_share })
