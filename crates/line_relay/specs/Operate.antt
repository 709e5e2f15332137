-- When a zone operates, and when the line is tripped, over the samples, the newest first, by their numbers. Zones go by their
-- places, from 0.
use Rattle.std.specs.Prelude.{ℕ, Bool, not, ◌&&◌, List, [], ◌∷◌, Option, slice_get, unwrap_or}
use Rattle.std.specs.Option.{option_map}
use Rattle.sample_windows.specs.Below.{any_below}
use Rattle.relay_num.specs.Numbers.{is_at_least}
use Rattle.relay_settings.specs.declared.types.Common.{Common}
use Rattle.relay_settings.specs.declared.types.ZonePart.{ZonePart}
use Rattle.relay_settings.specs.declared.types.ZoneSettings.{ZoneSettings}
use Rattle.relay_settings.specs.Settings.{PlainLine}
use Rattle.relay_settings.specs.Times.{samples}
use Rattle.loop_impedance.specs.Loops.{item}
use Rattle.zone_timers.specs.NumberedOperate.{operates_at as operates_by_number}
use Rattle.trip_logic.specs.Seal.{stands}
use Rattle.line_relay.specs.declared.measured.Measured.{Measured}
use Rattle.line_relay.specs.LineSamples.{Numbered, number_of_sample}
use Rattle.line_relay.specs.Guards.{is_ready_at, measured_at, polarising_at, is_swing_at, is_blown_at}
use Rattle.line_relay.specs.Inside.{is_inside, holds_of}

-- the delay of the part in samples, of each of the five zones
abbrev pub part_delay : ℕ → Option ZonePart → ℕ
part_delay rate part = unwrap_or (option_map (λ p. samples rate p.delay_ms) part) 0

abbrev pub five : {X : Type 0} → (ℕ → X) → List X
five said = said 0 ∷ said 1 ∷ said 2 ∷ said 3 ∷ said 4 ∷ []

abbrev pub delay_in : (ZoneSettings → Option ZonePart) → ℕ → List ZoneSettings → ℕ → ℕ
delay_in part rate zones place = unwrap_or (option_map (λ zone. part_delay rate (part zone)) (slice_get zones place)) 0

abbrev pub delays_of : (ZoneSettings → Option ZonePart) → ℕ → List ZoneSettings → List ℕ
delays_of part rate zones = five (delay_in part rate zones)

-- every phase current is below the threshold of an open breaker
abbrev pub is_without_current : ℕ → PlainLine → Measured → Bool
is_without_current n settings m =
    not (is_at_least (item 0 m.currents) n settings.open_i)
    && not (is_at_least (item 1 m.currents) n settings.open_i)
    && not (is_at_least (item 2 m.currents) n settings.open_i)

module _ (common : Common) (settings : PlainLine) where
  -- a loop is inside the zone at this place: the sample is ready, and all that the zone asks of the loop holds
  abbrev pub is_inside_at : ℕ → ℕ → List Numbered → Bool
  is_inside_at place lp past =
      is_ready_at common settings past
      && holds_of (λ zone. is_inside common.n settings zone (measured_at common settings past) (polarising_at common settings past)
      (is_swing_at common settings past) (is_blown_at common settings past) lp)
      settings.zones place

  abbrev pub ground_delays : List ℕ
  ground_delays = delays_of (λ zone. zone.ground) common.rate settings.zones

  abbrev pub phase_delays : List ℕ
  phase_delays = delays_of (λ zone. zone.phase) common.rate settings.zones

  -- a zone operates in a loop where the loop was inside at each number of the zone's whole delay
  abbrev pub operates_at : ℕ → ℕ → List Numbered → Bool
  operates_at place lp past = operates_by_number number_of_sample is_inside_at ground_delays phase_delays place lp past

  -- a zone with trip operates in some loop
  unfoldable pub trips_at : List Numbered → Bool
  trips_at past = any_below 5 (λ place. holds_of (λ zone. zone.trip) settings.zones place && any_below 6 (λ lp. operates_at place lp past))

  -- the sample is ready, and no phase has current
  abbrev pub is_dead_at : List Numbered → Bool
  is_dead_at past = is_ready_at common settings past && is_without_current common.n settings (measured_at common settings past)

  -- the trip, as it is sealed in (ANSI 94)
  abbrev pub is_tripped_at : List Numbered → Bool
  is_tripped_at past =
      stands number_of_sample trips_at is_dead_at (samples common.rate settings.trip_min_ms) (samples common.rate settings.open_ms) past
