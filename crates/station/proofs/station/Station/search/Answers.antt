use Rattle.std.proofs.Common.{ap, ◌∙◌, arith, get_or}
use Rattle.sv_frame.specs.Asdu.{plain_asdu}
use Rattle.station.proofs.StationLemmas.{owns-is, none-next}
use Rattle.station.proofs.station.Station.search.Goals as goal

pub returns-then-owns-clause-mine : goal.returns-then-owns-clause-mine
returns-then-owns-clause-mine c settings past stands = λ d.
    owns-is settings past c.args.self.now (plain_asdu c.args.a.now) c.loop-place.place d c.line-item.result c.owns.result stands (omega (arith, c.loop-place-test.true, c.deref-line-items.ensures.len))
    (c.line-item.is ∙ ap (λ ls. get_or ls c.loop-place.place c.line-item.result) c.deref-line-items.ensures.value) c.owns.ensures ∙ c.if-owns.true

pub loop-place-preserved : goal.loop-place-preserved
loop-place-preserved c settings past stands =
    none-next settings.lines (plain_asdu c.args.a.now) c.loop-place.place (c.loop-place.invariant settings past stands)
    (λ d. owns-is settings past c.args.self.now (plain_asdu c.args.a.now) c.loop-place.place d c.line-item.result c.owns.result stands (omega (arith, c.loop-place-test.true, c.deref-line-items.ensures.len))
    (c.line-item.is ∙ ap (λ ls. get_or ls c.loop-place.place c.line-item.result) c.deref-line-items.ensures.value) c.owns.ensures ∙ c.if-owns.false)

pub returns-clause-none : goal.returns-clause-none
returns-clause-none c settings past stands k d h = c.loop-place.invariant settings past stands k d (omega (arith, stands.count, c.loop-place-test.false, c.deref-line-items.ensures.len))
