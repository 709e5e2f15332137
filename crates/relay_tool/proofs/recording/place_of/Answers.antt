use Rattle.std.proofs.Common.{◌∙◌, List, ℕ, ap, sym, arith}
use Rattle.std.specs.Str.{bytes_eq}
use Rattle.relay_settings.specs.declared.types.LineSettings.{LineSettings}
use Rattle.relay_tool.proofs.Naming.{named-first, named-none}
use Rattle.relay_tool.proofs.recording.place_of.Goals as goal

pub returns-clause-none : goal.returns-clause-none
returns-clause-none c = named-none c.args.lines.now c.args.name.now (λ k x l. c.loop-place.invariant k x (omega (arith, l, c.loop-place-test.false)))

pub returns-then-eq-clause-found : goal.returns-then-eq-clause-found
returns-then-eq-clause-found c d =
    named-first c.args.lines.now c.args.name.now c.loop-place.place c.index-lines-place.result (omega (arith, c.loop-place-test.true)) c.loop-place.invariant
    (ap (λ (l : LineSettings). bytes_eq l.name.items c.args.name.now) (sym c.index-lines-place.is)
    ∙ (ap (λ (xs : List ℕ). bytes_eq xs c.args.name.now) (sym c.as_slice.ensures.value) ∙ (sym c.eq.ensures ∙ c.if-eq.true)))
    d
