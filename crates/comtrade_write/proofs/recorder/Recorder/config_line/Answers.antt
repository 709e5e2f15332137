use Rattle.std.proofs.Common.{◌∙◌, ◌-◌, ap, ap₂, refl, sym, List, ℕ, arith, slice_get}
use Rattle.relay_settings.specs.declared.types.Common.{Common}
use Rattle.relay_settings.specs.Settings.{PlainLine}
use Rattle.comtrade_write.specs.declared.window.Window.{Window}
use Rattle.comtrade_write.specs.ConfigTexts.{config_lines}
use Rattle.comtrade_write.specs.Recordings.{recorded_of}
use Rattle.comtrade_write.specs.KeptWindow.{count_by, span_by}
use Rattle.comtrade_write.proofs.RecordLemmas.{config-is, no-span}
use Rattle.comtrade_write.proofs.recorder.Recorder.config_line.Goals as goal

pub config_text-requires-clause-count : goal.config_text-requires-clause-count
config_text-requires-clause-count c = c.span.ensures.few c.in-Some.span c.in-Some.is

pub unreachable-requires : goal.unreachable-requires
unreachable-requires c =
    let none = no-span c.window.result.now.trip c.window.result.now.ring.items (sym c.span.ensures.span ∙ c.in_default.is) in
    let same = ap (λ (w : Window). count_by w.trip w.ring.items) c.window.ensures in
    absurd (omega (arith, none, same, c.requires.count))

pub returns : goal.returns
returns c common settings k past stands =
    let window = c.args.self.now.watch.window in
    let spanned = c.in-Some.ensures.span ∙ ap (λ (w : Window). span_by w.trip w.ring.items) c.window.ensures in
    let named = c.name.ensures.name ∙ ap (λ (l : PlainLine). l.name) stands.watch.line.same_settings in
    ap (λ (lines : List (List ℕ)). slice_get lines (c.args.i - 1))
    (config-is common.n k (recorded_of common settings past) window stands.watch.window settings.name common refl c.in-Some.span spanned
    ∙ sym (ap₂ (λ (name : List ℕ) (by : Common). config_lines name by c.in-Some.span) named stands.same_common))
    ∙ c.config_text.ensures
