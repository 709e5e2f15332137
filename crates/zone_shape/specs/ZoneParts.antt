-- The reach of a zone in each loop: a zone has a part for the loops to ground and a part for those between phases.
use Rattle.std.specs.Prelude.{ℕ, nat_lt, Bool, true, false, ◌||◌, if◌then◌else◌, Option, Some, None}
use Rattle.relay_num.specs.declared.Cx.{Cx}
use Rattle.relay_settings.specs.declared.types.ZoneSettings.{ZoneSettings}
use Rattle.relay_settings.specs.declared.types.ZonePart.{ZonePart}
use Rattle.relay_settings.specs.declared.types.Shape.{Shape}
use Rattle.relay_settings.specs.declared.types.Shape.TheVariants.{Mho, Quad}
use Rattle.relay_settings.specs.declared.types.Dir.{Dir}
use Rattle.relay_settings.specs.declared.types.Dir.TheVariants.{Forward, Reverse, Unasked}
use Rattle.zone_shape.specs.Shapes.{has_shape}

-- the part that a loop has, where it is there: AG, BG and CG the one to ground, AB, BC and CA the one between phases
abbrev pub part_of : ZoneSettings → ℕ → Option ZonePart
part_of zone lp = if nat_lt lp 3 then zone.ground else zone.phase

-- whether the zone looks backwards
abbrev pub is_reverse : Dir → Bool
is_reverse Forward = false
is_reverse Reverse = true
is_reverse Unasked = false

-- a part that isn't there holds nothing
abbrev pub is_in_part : Option ZonePart → Bool → Cx → Cx → Option Cx → Bool
is_in_part None reversed u i p = false
is_in_part (Some part) reversed u i p = has_shape part.shape reversed u i p

-- whether the loop lp of voltage u and current i is inside the zone
abbrev pub is_in_zone : ZoneSettings → ℕ → Cx → Cx → Option Cx → Bool
is_in_zone zone lp u i p = is_in_part (part_of zone lp) (is_reverse zone.dir) u i p

abbrev pub is_quad : Shape → Bool
is_quad (Mho z) = false
is_quad (Quad q) = true

abbrev pub is_quad_part : Option ZonePart → Bool
is_quad_part None = false
is_quad_part (Some part) = is_quad part.shape

-- whether a part of the zone is a quadrilateral
abbrev pub has_quad : ZoneSettings → Bool
has_quad zone = is_quad_part zone.ground || is_quad_part zone.phase
