-- The facts that a line keeps of the last taken sample, from which the differences are told.
use Rattle.std.specs.Prelude.{Bool, false, if◌then◌else◌, List, [], ◌∷◌, ◌++◌}
use Rattle.trip_logic.specs.declared.TripState.{TripState}
use Rattle.event_record.specs.declared.event.What.{What}
use Rattle.event_record.specs.declared.event.What.TheVariants.{Ready, Lost, SwingOn, SwingOff, FuseOn, FuseOff, Trip, Reset}
use Rattle.line_relay.specs.declared.shown.Shown.{Shown}
use Rattle.line_relay.specs.Facts.{Facts}
use Rattle.line_relay.specs.declared.events.LoopFact.TheVariants.{Inside, Operates}
use Rattle.line_relay.specs.Events.{edge, zone_edges}

-- with the trip
abbrev pub facts_shown : Shown → Bool → Facts
facts_shown shown trip = record {
  ready = shown.ready;
  swing = shown.swing;
  fuse = shown.fuse;
  inside = shown.inside;
  operate = shown.operate;
  trip = trip;
}

-- a trip that begins, or ends
abbrev pub trip_edge : TripState → List What
trip_edge trip = if trip.rose then Trip ∷ [] else if trip.fell then Reset ∷ [] else []

-- what is told where these facts were shown and those are, and the trip has changed so
abbrev pub shown_changes : Shown → Shown → TripState → List What
shown_changes before now trip =
    edge Ready Lost before.ready now.ready
    ++ edge SwingOn SwingOff before.swing now.swing
    ++ edge FuseOn FuseOff before.fuse now.fuse
    ++ zone_edges Inside before.inside now.inside
    ++ zone_edges Operates before.operate now.operate
    ++ trip_edge trip

-- nothing holds before the first sample
abbrev pub nothing : Shown
nothing = record { ready = false; swing = false; fuse = false; inside = 0 ∷ 0 ∷ 0 ∷ 0 ∷ 0 ∷ []; operate = 0 ∷ 0 ∷ 0 ∷ 0 ∷ 0 ∷ [] }
