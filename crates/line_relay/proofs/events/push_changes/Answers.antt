use Rattle.std.specs.Option.{option_map}
use Rattle.event_record.specs.Time.{time_of}
use Rattle.event_record.specs.declared.event.What.TheVariants.{SwingOn, SwingOff, FuseOn, FuseOff}
use Rattle.line_relay.specs.declared.events.LoopFact.TheVariants.{Inside, Operates}
use Rattle.line_relay.specs.Events.{edge, zone_edges}
use Rattle.line_relay.specs.Shown.{trip_edge}
use Rattle.line_relay.proofs.EventLemmas.{told_append}
use Rattle.line_relay.proofs.events.push_changes.Goals as goal

pub returns : goal.returns
returns c =
    let at = option_map (time_of c.args.common.now) c.args.last in
    let start = c.args.events.now.items in
    let before = c.args.before.now in
    let now = c.args.now.now in
    let ready = c.push_edge.ensures.events in
    let swing = told_append at start c.push_edge.new.events.items c.push_edge-2.new.events.items _ (edge SwingOn SwingOff before.swing now.swing) ready c.push_edge-2.ensures.events in
    let fuse = told_append at start c.push_edge-2.new.events.items c.push_edge-3.new.events.items _ (edge FuseOn FuseOff before.fuse now.fuse) swing c.push_edge-3.ensures.events in
    let inside = told_append at start c.push_edge-3.new.events.items c.push_zone_edges.new.events.items _ (zone_edges Inside before.inside now.inside) fuse c.push_zone_edges.ensures.events in
    let operate = told_append at start c.push_zone_edges.new.events.items c.push_zone_edges-2.new.events.items _ (zone_edges Operates before.operate now.operate) inside c.push_zone_edges-2.ensures.events in
    told_append at start c.push_zone_edges-2.new.events.items c.push_trip.new.events.items _ (trip_edge c.args.trip.now) operate c.push_trip.ensures
