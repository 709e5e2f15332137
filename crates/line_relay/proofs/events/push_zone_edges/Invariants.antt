use Rattle.std.proofs.Common.{◌≡◌, ◌≤◌, ◌+◌, ◌*◌, ◌++◌, slice_index}
use Rattle.std.specs.Option.{option_map}
use Rattle.arrayvec.specs.ArrayVec.{array_vec_len}
use Rattle.event_record.specs.Time.{time_of}
use Rattle.line_relay.specs.Events.{told, concat_below, loop_edges}
use Rattle.line_relay.proofs.events.push_zone_edges.Given as goal

abbrev pub invariant-loop-place : goal.invariant-loop-place
invariant-loop-place l = record {
  told : l.events.items ≡ l.fn.events.items ++ told (option_map (time_of l.common) l.last) (concat_below l.place (λ place. loop_edges l.fact (place + 1) (slice_index l.before place) (slice_index l.now place)));
  few : array_vec_len l.events ≤ array_vec_len l.fn.events + 6 * l.place;
}
