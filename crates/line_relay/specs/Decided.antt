-- What the parts of a line take of a sample, by what is measured at it where it is ready.
use Rattle.std.specs.Prelude.{ℕ, Bool, false, ◌&&◌, ◌||◌, List, Option, Some, None}
use Rattle.relay_settings.specs.declared.types.ZoneSettings.{ZoneSettings}
use Rattle.relay_settings.specs.Settings.{PlainLine}
use Rattle.relay_num.specs.declared.Cx.{Cx}
use Rattle.zone_timers.specs.ZoneMasks.{zone_masks}
use Rattle.line_relay.specs.declared.measured.Measured.{Measured}
use Rattle.line_relay.specs.Inside.{is_inside, holds_of}
use Rattle.line_relay.specs.Operate.{is_without_current}
use Rattle.line_relay.specs.Points.{has_some}

abbrev pub trips_in : List ZoneSettings → List ℕ → ℕ → Bool
trips_in zones masks place = holds_of (λ zone. zone.trip) zones place && has_some masks place

-- a zone with trip has a loop in its mask
abbrev pub trips_by : List ZoneSettings → List ℕ → Bool
trips_by zones masks =
    trips_in zones masks 0 || trips_in zones masks 1 || trips_in zones masks 2 || trips_in zones masks 3 || trips_in zones masks 4

abbrev pub dead_by : ℕ → PlainLine → Option Measured → Bool
dead_by n settings None = false
dead_by n settings (Some m) = is_without_current n settings m

-- a loop is inside the zone at this place
abbrev pub inside_by : ℕ → PlainLine → Option Measured → Option Cx → Bool → Bool → ℕ → ℕ → Bool
inside_by n settings None polarising swing blown place lp = false
inside_by n settings (Some m) polarising swing blown place lp = holds_of (λ zone. is_inside n settings zone m polarising swing blown lp) settings.zones place

-- the masks of the loops inside
unfoldable pub inside_masks_by : ℕ → PlainLine → Option Measured → Option Cx → Bool → Bool → List ℕ
inside_masks_by n settings measured polarising swing blown = zone_masks (inside_by n settings measured polarising swing blown)
