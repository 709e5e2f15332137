-- The ranges of a line's settings are facts that have one proof at most.
use Rattle.std.proofs.Props.{props}
use Rattle.std.proofs.Math.Logic.{∥∥₁_elim}
use Rattle.relay_settings.specs.declared.types.Shape.{Shape}
use Rattle.relay_settings.specs.declared.types.Shape.TheVariants.{Mho, Quad}
use Rattle.relay_settings.specs.declared.types.ZonePart.{ZonePart}
use Rattle.relay_settings.specs.declared.types.ZoneSettings.{ZoneSettings}
use Rattle.relay_settings.specs.declared.types.LineSettings.{LineSettings}
use Rattle.relay_settings.specs.Ranges.{IsShape, IsZonePart, IsZone, IsLine}

shape-prop : (s : Shape) → IsProp (IsShape s)
shape-prop (Mho reach) = hlevel props
shape-prop (Quad q) = hlevel props

part-prop : (p : ZonePart) → IsProp (IsZonePart p)
part-prop p = hlevel (props, shape-prop)

zone-prop : (z : ZoneSettings) → IsProp (IsZone z)
zone-prop z = hlevel (props, part-prop)

line-prop : (l : LineSettings) → IsProp (IsLine l)
line-prop l = hlevel (props, zone-prop)

-- the ranges that a line keeps
pub ranges_of : (l : LineSettings) → ∥ IsLine l ∥₁ → IsLine l
ranges_of l kept = ∥∥₁_elim kept (line-prop l) (λ ranges. ranges)
