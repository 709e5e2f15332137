use Rattle.std.proofs.Common.{◌≡◌, ◌≤◌, ◌∙◌, ◌-◌, ℕ, sym, ap, subst, arith, Some, [], ◌∷◌, ◌++◌, slice_get}
use Rattle.std.specs.Prelude.{◌==◌, if◌then◌else◌}
use Rattle.relay_settings.specs.declared.types.Common.{Common}
use Rattle.line_relay.proofs.FrontLemmas.{cycle_few}
use Rattle.comtrade_write.specs.declared.window.Window.{Window}
use Rattle.comtrade_write.specs.DataTexts.{data_text}
use Rattle.comtrade_write.specs.Recordings.{recorded_of}
use Rattle.comtrade_write.specs.KeptWindow.{count_by, span_by}
use Rattle.comtrade_write.proofs.RecordLemmas.{data-is, data-near, no-span, none-missing, count-span}
use Rattle.comtrade_write.proofs.recorder.Recorder.data_line.Goals as goal

pub data_text-requires-clause-i : goal.data_text-requires-clause-i
data_text-requires-clause-i c =
    let w = c.window-window.result.now in
    let same = ap (λ (w' : Window). count_by w'.trip w'.ring.items) c.window-window.ensures in
    let counted = count-span w.trip w.ring.items c.in-Some.span (sym c.in-Some.is ∙ c.span.ensures.span) in
    omega (arith, same, counted, c.requires.i.1, c.span.ensures.few c.in-Some.span c.in-Some.is)

pub unreachable-requires : goal.unreachable-requires
unreachable-requires c =
    let none = no-span c.window-window.result.now.trip c.window-window.result.now.ring.items (sym c.span.ensures.span ∙ c.in_default.is) in
    let same = ap (λ (w : Window). count_by w.trip w.ring.items) c.window-window.ensures in
    absurd (omega (arith, none, same, c.requires.count))

pub unreachable-requires-in_default-get : goal.unreachable-requires-in_default-get
unreachable-requires-in_default-get c =
    let w = c.window-window.result.now in
    let missing = none-missing w.trip w.ring.items (c.args.i - 1) (sym c.in_default-get.ensures) in
    let same = ap (λ (w' : Window). count_by w'.trip w'.ring.items) c.window-window.ensures in
    absurd (omega (arith, missing, same, c.requires.i.0, c.requires.i.1))

pub returns : goal.returns
returns c common settings k past stands =
    let window = c.args.self.now.watch.window in
    let rs = recorded_of common settings past in
    let spanned : Some c.in-Some.span ≡ span_by window.trip window.ring.items =
    sym c.in-Some.is ∙ c.span.ensures.span ∙ ap (λ (w : Window). span_by w.trip w.ring.items) c.window-window.ensures in
    let here : Some c.in-Some-get.recorded.now ≡ slice_get window.ring.items (c.args.i - 1) =
    c.in-Some-get.ensures ∙ ap (λ (w : Window). slice_get w.ring.items (c.args.i - 1)) c.window-window.ensures in
    let small : common.n ≤ 96 = subst (λ (n : ℕ). n ≤ 96) stands.watch.window.same_n (cycle_few window.n window.cycle) in
    let near = data-near common.n k rs window stands.watch.window (c.args.i - 1) c.in-Some.span c.in-Some-get.recorded.now small spanned here in
    data-is common.n k rs window stands.watch.window common.rate c.args.i c.in-Some.span c.in-Some-get.recorded.now c.requires.i.0 spanned here
    ∙ sym (ap Some (c.data_text.ensures near
    ∙ ap (λ (by : Common). data_text by.rate c.in-Some.span.first c.args.i c.in-Some-get.recorded.now ++ (if c.args.i == c.in-Some.span.count then 26 ∷ [] else [])) stands.same_common))
