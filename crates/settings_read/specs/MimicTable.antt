-- The table `mimic` of a line: the mimic filter.
use Rattle.std.specs.Prelude.{pos, codes, List, [], ◌∷◌, ℕ, Ok}
use Rattle.relay_settings.specs.declared.types.Mimic.{Mimic}
use Rattle.settings_read.specs.Walk.{Answer, ◌>>=◌, Place, only, required, whole}

abbrev pub mimic_keys : List (List ℕ)
mimic_keys = codes "a" ∷ codes "b" ∷ []

unfoldable pub mimic_at : Place → Answer Mimic
mimic_at here = do
  _ ← only here mimic_keys
  a ← required (whole (pos 0) (pos 65536)) here (codes "a")
  b ← required (whole (pos 0) (pos 65536)) here (codes "b")
  Ok (record { a = a; b = b })
