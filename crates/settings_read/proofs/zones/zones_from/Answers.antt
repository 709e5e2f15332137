use Rattle.std.proofs.Common.{arith}
use Rattle.std.proofs.lemmas.Result.{err_from_is_err_and}
use Rattle.std.proofs.lemmas.List.Elements.{All-push}
use Rattle.relay_settings.specs.Ranges.{IsZone}
use Rattle.settings_read.specs.View.{plain_place, plain_refusal}
use Rattle.settings_read.specs.ZoneList.{zone_after}
use Rattle.settings_read.proofs.Loop.{each_stops, each_goes, each_ends}
use Rattle.settings_read.proofs.zones.zones_from.Goals as goal

pub returns-in_err-zone-clause-value : goal.returns-in_err-zone-clause-value
returns-in_err-zone-clause-value c =
    let p = err_from_is_err_and c.from_residual.result c.from_residual.ensures.1 in
    rw (p.1, p.2) (each_stops (zone_after c.args.version (plain_place c.args.line.now)) c.loop-item.zones.items c.args.items.now c.loop-item.item-index c.item-item.result (plain_refusal c.in_err-zone.field-0.0) _ c.loop-item-test.true c.item-item.is (rw c.as_slice.ensures.value at c.in_err-zone.ensures.value) c.loop-item.invariant.rest)

pub loop-item-preserved : goal.loop-item-preserved
loop-item-preserved c = record {
  as_far = omega (arith, c.push.ensures.len);
  rest = rw c.push.ensures.items (each_goes (zone_after c.args.version (plain_place c.args.line.now)) c.loop-item.zones.items c.args.items.now c.loop-item.item-index c.item-item.result c.in_ok-zone.zone _ c.loop-item-test.true c.item-item.is (rw c.as_slice.ensures.value at c.in_ok-zone.ensures.value) c.loop-item.invariant.rest);
  ranges = rw c.push.ensures.items (All-push IsZone c.loop-item.zones.items c.in_ok-zone.zone c.loop-item.invariant.ranges c.in_ok-zone.ensures.ranges);
}

pub returns-clause-value : goal.returns-clause-value
returns-clause-value c = each_ends (zone_after c.args.version (plain_place c.args.line.now)) c.loop-item.zones.items c.args.items.now c.loop-item.item-index _ c.loop-item-test.false c.loop-item.invariant.rest
