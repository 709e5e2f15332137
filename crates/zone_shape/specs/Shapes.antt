-- The reach of a zone, of either shape (Phadke and Thorp, Computer Relaying for Power Systems).
use Rattle.std.specs.Prelude.{Bool, false, if◌then◌else◌, Option, Some, None}
use Rattle.relay_num.specs.declared.Cx.{Cx}
use Rattle.relay_num.specs.Numbers.{opposite}
use Rattle.relay_settings.specs.declared.types.Shape.{Shape}
use Rattle.relay_settings.specs.declared.types.Shape.TheVariants.{Mho, Quad}
use Rattle.mho_zone.specs.Mho.{is_inside_mho}
use Rattle.quad_zone.specs.Quad.{is_inside_quad}

-- whether a loop of voltage u and current i is inside: a mho polarises from p, and without one it holds nothing
abbrev pub is_inside : Shape → Cx → Cx → Option Cx → Bool
is_inside (Mho z) u i (Some p) = is_inside_mho z u i p
is_inside (Mho z) u i None = false
is_inside (Quad q) u i p = is_inside_quad q u i

-- a zone that looks backwards takes the opposite of the current
abbrev pub has_shape : Shape → Bool → Cx → Cx → Option Cx → Bool
has_shape shape reversed u i p = is_inside shape u (if reversed then opposite i else i) p
