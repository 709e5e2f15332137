use Rattle.std.proofs.Common.{length, ap, arith}
use Rattle.relay_settings.specs.declared.types.LineSettings.{LineSettings}
use Rattle.relay_tool.proofs.Checking.{zones-next}
use Rattle.relay_tool.proofs.check.zones_of.Goals as goal

pub loop-line-preserved : goal.loop-line-preserved
loop-line-preserved c =
    let next = zones-next c.args.lines.now c.loop-line.line-index c.line-item.result c.loop-line-test.true in
    let zones = ap (λ (line : LineSettings). length line.zones.items) c.line-item.is in
    let few = c.len.ensures.fits in
    record { counted = omega (arith, c.loop-line.invariant.counted, c.len.ensures.value, zones, next); few = omega arith }

pub overflow_add-zones : goal.overflow_add-zones
overflow_add-zones c = let few = c.len.ensures.fits in let lines = c.requires in omega arith
