use Rattle.std.proofs.Common.{◌≡◌, ◌+◌, ◌∙◌, ap, sym, refl, arith, slice_index}
use Rattle.arrayvec.specs.ArrayVec.{ArrayVec, array_vec_len}
use Rattle.event_record.specs.declared.event.Event.{Event}
use Rattle.std.specs.Option.{option_map}
use Rattle.event_record.specs.Time.{time_of}
use Rattle.line_relay.specs.Events.{loop_edges, zone_edges}
use Rattle.line_relay.proofs.EventLemmas.{told_start, told_next, told_same, told_end, loop_edges-same}
use Rattle.line_relay.proofs.events.push_zone_edges.Goals as goal
use Rattle.line_relay.proofs.events.push_zone_edges.Goals.{then-was-is, else-was-is}

pub loop-place-init : goal.loop-place-init
loop-place-init c = record {
  told = told_start (option_map (time_of c.args.common.now) c.args.last) (λ place. loop_edges c.args.fact (place + 1) (slice_index c.args.before.now place) (slice_index c.args.now.now place)) c.args.events.now.items;
  few = omega arith;
}

pub loop-place-preserved : goal.loop-place-preserved
loop-place-preserved c =
    let place = c.loop-place.place in
    let was = slice_index c.args.before.now place in
    let is = slice_index c.args.now.now place in
    elim c.if-was-is.branch [
      | then-was-is w ↦ record {
        told =
            ap (λ (v : ArrayVec Event). v.items) w.events-is
            ∙ told_next (option_map (time_of c.args.common.now) c.args.last) place (λ place. loop_edges c.args.fact (place + 1) (slice_index c.args.before.now place) (slice_index c.args.now.now place))
            c.args.events.now.items c.loop-place.events.items w.push_loop_edges.new.events.items (loop_edges c.args.fact (place + 1) was is)
            c.loop-place.invariant.told w.push_loop_edges.ensures.events refl;
        few = omega (arith, ap (λ (v : ArrayVec Event). array_vec_len v) w.events-is, w.push_loop_edges.ensures.few, c.loop-place.invariant.few);
      }
      | else-was-is w ↦ record {
        told =
            ap (λ (v : ArrayVec Event). v.items) w.events-is
            ∙ told_same (option_map (time_of c.args.common.now) c.args.last) place (λ place. loop_edges c.args.fact (place + 1) (slice_index c.args.before.now place) (slice_index c.args.now.now place))
            c.args.events.now.items c.loop-place.events.items c.loop-place.invariant.told
            (sym (ap (λ mask. loop_edges c.args.fact (place + 1) mask is) w.if-was-is.false ∙ loop_edges-same c.args.fact (place + 1) is));
        few = omega (arith, ap (λ (v : ArrayVec Event). array_vec_len v) w.events-is, c.loop-place.invariant.few);
      }
    ]

pub returns-clause-events : goal.returns-clause-events
unfolding zone_edges
returns-clause-events c =
    let end : c.loop-place.place ≡ 5 = omega arith in
    told_end (option_map (time_of c.args.common.now) c.args.last) c.loop-place.place 5 (λ place. loop_edges c.args.fact (place + 1) (slice_index c.args.before.now place) (slice_index c.args.now.now place))
    c.args.events.now.items c.loop-place.events.items c.loop-place.invariant.told end
