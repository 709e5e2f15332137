use Rattle.std.proofs.Common.{◌≡◌, ◌∙◌, ℕ, ap, ap₂, arith}
use Rattle.arrayvec.specs.ArrayVec.{ArrayVec, array_vec_len}
use Rattle.std.specs.Option.{option_map}
use Rattle.event_record.specs.Time.{time_of}
use Rattle.event_record.specs.declared.event.Event.{Event}
use Rattle.loop_impedance.specs.Masks.{has_bit}
use Rattle.line_relay.specs.Events.{loop_edge, loop_edges}
use Rattle.line_relay.proofs.EventLemmas.{told_start, told_next, told_end}
use Rattle.line_relay.proofs.events.push_loop_edges.Goals as goal
use Rattle.line_relay.proofs.events.push_loop_edges.Goals.{in-Inside, in-Operates}

pub loop-place-init : goal.loop-place-init
loop-place-init c = record {
  told = told_start (option_map (time_of c.args.common.now) c.args.last) (λ lp. loop_edge c.args.fact c.args.zone lp (has_bit lp c.args.before) (has_bit lp c.args.now)) c.args.events.now.items;
  few = omega arith;
}

pub loop-place-preserved : goal.loop-place-preserved
loop-place-preserved c =
    let at = option_map (time_of c.args.common.now) c.args.last in
    let place = c.loop-place.place in
    let edges = λ (lp : ℕ). loop_edge c.args.fact c.args.zone lp (has_bit lp c.args.before) (has_bit lp c.args.now) in
    let this = loop_edge c.args.fact c.args.zone place c.has_bit-was.result c.has_bit-is.result in
    let same : this ≡ edges place = ap₂ (λ was is. loop_edge c.args.fact c.args.zone place was is) c.has_bit-was.ensures c.has_bit-is.ensures in
    elim c.match-fact.branch [
      | in-Inside w ↦ record {
        told = told_next at place edges c.args.events.now.items c.loop-place.events.items _ this c.loop-place.invariant.told
            (ap (λ (v : ArrayVec Event). v.items) w.events-is ∙ rw w.in-Inside.is w.push_edge.ensures.events) same;
        few = omega (arith, ap (λ (v : ArrayVec Event). array_vec_len v) w.events-is, w.push_edge.ensures.few, c.loop-place.invariant.few);
      }
      | in-Operates w ↦ record {
        told = told_next at place edges c.args.events.now.items c.loop-place.events.items _ this c.loop-place.invariant.told
            (ap (λ (v : ArrayVec Event). v.items) w.events-is ∙ rw w.in-Operates.is w.push_beginning.ensures.events) same;
        few = omega (arith, ap (λ (v : ArrayVec Event). array_vec_len v) w.events-is, w.push_beginning.ensures.few, c.loop-place.invariant.few);
      }
    ]

pub returns-clause-events : goal.returns-clause-events
unfolding loop_edges
returns-clause-events c =
    let end : c.loop-place.place ≡ 6 = omega arith in
    told_end (option_map (time_of c.args.common.now) c.args.last) c.loop-place.place 6 (λ lp. loop_edge c.args.fact c.args.zone lp (has_bit lp c.args.before) (has_bit lp c.args.now))
    c.args.events.now.items c.loop-place.events.items c.loop-place.invariant.told end
