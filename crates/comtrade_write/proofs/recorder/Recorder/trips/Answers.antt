use Rattle.std.proofs.Common.{◌∙◌, ap, sym}
use Rattle.comtrade_write.specs.declared.window.Window.{Window}
use Rattle.line_bank.specs.Owners.{own}
use Rattle.comtrade_write.proofs.WatchLemmas.{trips-are-told}
use Rattle.comtrade_write.proofs.recorder.Recorder.trips.Goals as goal

pub returns-clause-told : goal.returns-clause-told
returns-clause-told c common settings k past stands =
    c.trips.ensures ∙ ap (λ (w : Window). w.trips) c.window.ensures ∙ stands.watch.window.trips ∙ sym (trips-are-told common settings (own settings past))
