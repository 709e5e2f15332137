use Rattle.std.proofs.Common.{◌≡◌, drop}
use Rattle.std.specs.List.{filter_map}
use Rattle.fault_locate.specs.TripEvents.{loop_of_event}
use Rattle.fault_locate.proofs.trips.first_loop.Given as goal

abbrev pub invariant-loop-event : goal.invariant-loop-event
invariant-loop-event l = filter_map (loop_of_event l.zones) (drop l.event-index l.events) ≡ filter_map (loop_of_event l.zones) l.events
