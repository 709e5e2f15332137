use Rattle.std.proofs.Common.{◌∙◌, ap}
use Rattle.comtrade_write.specs.declared.window.Window.{Window}
use Rattle.comtrade_write.specs.Recordings.{recorded_of}
use Rattle.comtrade_write.specs.KeptWindow.{count_by}
use Rattle.comtrade_write.proofs.RecordLemmas.{count-none}
use Rattle.comtrade_write.proofs.recorder.Recorder.count.Goals as goal

pub returns-clause-none : goal.returns-clause-none
returns-clause-none c common settings k past stands =
    let window = c.args.self.now.watch.window in
    count-none common.n k (recorded_of common settings past) window stands.watch.window c.count.result window.some
    (c.count.ensures.count ∙ ap (λ (w : Window). count_by w.trip w.ring.items) c.window.ensures)
