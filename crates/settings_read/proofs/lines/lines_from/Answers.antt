use Rattle.std.proofs.Common.{◌≡◌, ◌++◌, ◌∷◌, [], refl, arith}
use Rattle.std.proofs.lemmas.Result.{err_from_is_err_and}
use Rattle.std.proofs.lemmas.List.{map_push}
use Rattle.settings_read.specs.View.{plain_place, plain_refusal}
use Rattle.relay_settings.specs.Settings.{plain_lines, plain_line}
use Rattle.settings_read.specs.LineList.{line_after}
use Rattle.settings_read.proofs.Loop.{each_stops, each_goes, each_ends}
use Rattle.settings_read.proofs.Repeats.{AreLines-nil, AreLines-push}
use Rattle.settings_read.proofs.lines.lines_from.Goals as goal

pub returns-in_err-line-clause-exact : goal.returns-in_err-line-clause-exact
returns-in_err-line-clause-exact c =
    let p = err_from_is_err_and c.from_residual.result c.from_residual.ensures.1 in
    rw (p.1, p.2) (each_stops (line_after c.args.version (plain_place c.args.top.now)) (plain_lines c.loop-item.lines.items) c.args.items.now c.loop-item.item-index c.item-item.result (plain_refusal c.in_err-line.field-0.0) _ c.loop-item-test.true c.item-item.is (rw c.as_slice.ensures.value at c.in_err-line.ensures.value) c.loop-item.invariant.rest)

pub loop-item-init : goal.loop-item-init
loop-item-init c = rw c.new-lines.ensures.items (record { as_far = refl; rest = refl; ranges = AreLines-nil })

pub loop-item-preserved : goal.loop-item-preserved
loop-item-preserved c =
    let e : plain_lines c.push.new.self.items ≡ plain_lines c.loop-item.lines.items ++ plain_line c.in_ok-line.line ∷ [] = rw c.in_ok-push.ensures.items (map_push _ c.loop-item.lines.items c.in_ok-line.line) in
    record {
      as_far = omega (arith, c.in_ok-push.ensures.len);
      rest = rw e (each_goes (line_after c.args.version (plain_place c.args.top.now)) (plain_lines c.loop-item.lines.items) c.args.items.now c.loop-item.item-index c.item-item.result (plain_line c.in_ok-line.line) _ c.loop-item-test.true c.item-item.is (rw c.as_slice.ensures.value at c.in_ok-line.ensures.value) c.loop-item.invariant.rest);
      ranges = rw c.in_ok-push.ensures.items (AreLines-push c.loop-item.lines.items c.in_ok-line.line c.loop-item.invariant.ranges c.in_ok-line.ensures.ranges (rw c.as_slice.ensures.value at c.in_ok-line.ensures.new));
    }

pub returns-clause-exact : goal.returns-clause-exact
returns-clause-exact c = each_ends (line_after c.args.version (plain_place c.args.top.now)) (plain_lines c.loop-item.lines.items) c.args.items.now c.loop-item.item-index _ c.loop-item-test.false c.loop-item.invariant.rest
