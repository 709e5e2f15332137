use Rattle.std.proofs.Common.{◌≡◌, ◌≤◌, ◌+◌, ◌++◌}
use Rattle.std.specs.Option.{option_map}
use Rattle.arrayvec.specs.ArrayVec.{array_vec_len}
use Rattle.event_record.specs.Time.{time_of}
use Rattle.loop_impedance.specs.Masks.{has_bit}
use Rattle.line_relay.specs.Events.{loop_edge, told, concat_below}
use Rattle.line_relay.proofs.events.push_loop_edges.Given as goal

abbrev pub invariant-loop-place : goal.invariant-loop-place
invariant-loop-place l = record {
  told : l.events.items ≡ l.fn.events.items ++ told (option_map (time_of l.common) l.last) (concat_below l.place (λ lp. loop_edge l.fact l.zone lp (has_bit lp l.before) (has_bit lp l.now)));
  few : array_vec_len l.events ≤ array_vec_len l.fn.events + l.place;
}
