-- The keys of a zone that both versions of the settings have, and the zone that they make.
use Rattle.std.specs.Prelude.{ℕ, pos, neg_ℤ, codes, Bool, true, false, if◌then◌else◌, List, Option, Some, None, Ok}
use Rattle.std.specs.Str.{bytes_eq}
use Rattle.relay_num.specs.declared.Cx.{Cx}
use Rattle.relay_settings.specs.declared.types.QuadSettings.{QuadSettings}
use Rattle.relay_settings.specs.declared.types.ZoneSettings.{ZoneSettings}
use Rattle.relay_settings.specs.declared.types.ZonePart.{ZonePart}
use Rattle.relay_settings.specs.declared.types.Shape.{Shape}
use Rattle.relay_settings.specs.declared.types.Dir.{Dir}
use Rattle.relay_settings.specs.declared.types.Shape.TheVariants.{Mho, Quad}
use Rattle.relay_settings.specs.declared.types.Dir.TheVariants.{Forward, Reverse, Unasked}
use Rattle.settings_read.specs.Walk.{Answer, ◌>>=◌, Place, required, whole}

-- whether the shape is a quadrilateral
abbrev pub quad_of_word : List ℕ → Option Bool
quad_of_word word = if bytes_eq word (codes "mho") then Some false else if bytes_eq word (codes "quad") then Some true else None

abbrev pub dir_of_word : List ℕ → Option Dir
dir_of_word word =
    if bytes_eq word (codes "forward") then Some Forward
    else if bytes_eq word (codes "reverse") then Some Reverse
    else if bytes_eq word (codes "none") then Some Unasked
    else None

-- the reach of a mho
unfoldable pub mho_at : Place → Answer Cx
mho_at here = do
  reach_r ← required (whole (pos 0) (pos 1000000)) here (codes "reach_r")
  reach_x ← required (whole (pos 1) (pos 1000000)) here (codes "reach_x")
  Ok (record { re = reach_r; im = reach_x })

unfoldable pub quad_at : Place → Answer QuadSettings
quad_at here = do
  reach_r ← required (whole (pos 1) (pos 1000000)) here (codes "reach_r")
  reach_x ← required (whole (pos 1) (pos 1000000)) here (codes "reach_x")
  tilt ← required (whole (neg_ℤ (pos 500)) (pos 500)) here (codes "tilt")
  slope ← required (whole (pos 0) (pos 1000)) here (codes "slope")
  back_x ← required (whole (pos 0) (pos 1000000)) here (codes "back_x")
  Ok (record { reach_r = reach_r; reach_x = reach_x; tilt = tilt; slope = slope; back_x = back_x })

-- the reaches of a mho, or of a quadrilateral
unfoldable pub shape_at : Place → Bool → Answer Shape
shape_at here false = do
  reach ← mho_at here
  Ok (Mho reach)
shape_at here true = do
  q ← quad_at here
  Ok (Quad q)

-- the part with this shape and this delay in milliseconds
abbrev pub part_of : Shape → ℕ → ZonePart
part_of shape delay_ms = record { shape = shape; delay_ms = delay_ms }

-- what it is to the ground loops and to the phase loops, the direction that it asks, whether it trips, and what blocks it
abbrev pub zone_of : (ground : Option ZonePart) → (phase : Option ZonePart) → Dir → Bool → Bool → Bool → ZoneSettings
zone_of ground phase dir trip swing_block load_block =
    record { ground = ground; phase = phase; dir = dir; trip = trip; swing_block = swing_block; load_block = load_block }
