-- The table `load` of a line: the load rule.
use Rattle.std.specs.Prelude.{pos, codes, List, [], ◌∷◌, ℕ, Ok}
use Rattle.relay_settings.specs.declared.types.LoadSettings.{LoadSettings}
use Rattle.settings_read.specs.Walk.{Answer, ◌>>=◌, Place, only, required, whole}

abbrev pub load_keys : List (List ℕ)
load_keys = codes "r" ∷ codes "slope" ∷ []

unfoldable pub load_at : Place → Answer LoadSettings
load_at here = do
  _ ← only here load_keys
  r ← required (whole (pos 1) (pos 1000000)) here (codes "r")
  slope ← required (whole (pos 0) (pos 10000)) here (codes "slope")
  Ok (record { r = r; slope = slope })
