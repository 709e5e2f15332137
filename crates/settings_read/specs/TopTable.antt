-- The top table of the file: its version, what all lines share, and the lines.
use Rattle.std.specs.Prelude.{ℕ, codes, ◌&&◌, ◌==◌, if◌then◌else◌, List, [], ◌∷◌, Option, Some, None, Ok}
use Rattle.relay_settings.specs.declared.types.Common.{Common}
use Rattle.relay_settings.specs.Settings.{PlainSettings}
use Rattle.settings_read.specs.declared.version.Version.{Version}
use Rattle.settings_read.specs.declared.version.Version.TheVariants.{One, Two}
use Rattle.settings_read.specs.Start.{second_of_text}
use Rattle.settings_read.specs.Walk.{Answer, ◌>>=◌, there, Place, path, only, required, count, word}
use Rattle.settings_read.specs.LineList.{lines_of}

abbrev pub top_keys : List (List ℕ)
top_keys = codes "version" ∷ codes "start" ∷ codes "rate" ∷ codes "nominal" ∷ codes "heartbeat_ms" ∷ codes "line" ∷ []

unfoldable pub version_at : Place → Answer Version
version_at top = do
  version ← required (count 1 2) top (codes "version")
  Ok (if version == 1 then One else Two)

-- the samples of a cycle
abbrev pub cycle_of : ℕ → ℕ → Option ℕ
cycle_of rate nominal =
    if (rate == 4800) && (nominal == 50) then Some 96
    else if (rate == 4800) && (nominal == 60) then Some 80
    else if (rate == 4000) && (nominal == 50) then Some 80
    else None

unfoldable pub common_at : Place → Answer Common
common_at top = do
  start ← word 20 second_of_text top (codes "start")
  rate ← required (count 1 65535) top (codes "rate")
  nominal ← required (count 1 1000) top (codes "nominal")
  heartbeat_ms ← required (count 100 60000) top (codes "heartbeat_ms")
  n ← there (cycle_of rate nominal) 7 (path top (codes "rate"))
  Ok (record { rate = rate; nominal = nominal; n = n; start = start; heartbeat_ms = heartbeat_ms })

unfoldable pub settings_at : Place → Answer PlainSettings
settings_at top = do
  _ ← only top top_keys
  version ← version_at top
  common ← common_at top
  lines ← lines_of version top
  Ok (record { common = common; lines = lines })
