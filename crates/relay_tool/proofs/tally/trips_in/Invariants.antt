use Rattle.std.proofs.Common.{◌≡◌, ◌≤◌, take}
use Rattle.std.specs.List.{count_by}
use Rattle.relay_tool.specs.Tallies.{is_trip}
use Rattle.relay_tool.proofs.tally.trips_in.Given as goal

abbrev pub invariant-loop-event : goal.invariant-loop-event
invariant-loop-event l = record {
  counted : l.trips ≡ count_by is_trip (take l.event-index l.events);
  few : l.trips ≤ l.event-index;
}
