-- The table `fuse` of a line: the rule of a blown fuse.
use Rattle.std.specs.Prelude.{codes, List, [], ◌∷◌, ℕ, Ok}
use Rattle.relay_settings.specs.declared.types.FuseSettings.{FuseSettings}
use Rattle.settings_read.specs.Walk.{Answer, ◌>>=◌, Place, only, required, count}

abbrev pub fuse_keys : List (List ℕ)
fuse_keys = codes "u2_min" ∷ codes "i2_max" ∷ codes "hold_ms" ∷ []

unfoldable pub fuse_at : Place → Answer FuseSettings
fuse_at here = do
  _ ← only here fuse_keys
  u2_min ← required (count 1 100000000) here (codes "u2_min")
  i2_max ← required (count 1 100000000) here (codes "i2_max")
  hold_ms ← required (count 1 60000) here (codes "hold_ms")
  Ok (record { u2_min = u2_min; i2_max = i2_max; hold_ms = hold_ms })
