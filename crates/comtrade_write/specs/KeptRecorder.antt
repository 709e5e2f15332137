-- What a recorder holds after the sample sets that it heard, the newest first.
use Rattle.std.specs.Prelude.{ℕ, ◌≡◌, List}
use Rattle.relay_settings.specs.declared.types.Common.{Common}
use Rattle.relay_settings.specs.Settings.{PlainLine}
use Rattle.sv_frame.specs.Asdu.{PlainAsdu}
use Rattle.comtrade_write.specs.declared.recorder.Recorder.{Recorder}
use Rattle.line_bank.specs.Owners.{own}
use Rattle.comtrade_write.specs.KeptWindow.{count_by}
use Rattle.comtrade_write.specs.KeptWatch.{StandsFor as WatchStandsFor}

-- how many sample sets a recorder has heard
abbrev pub heard_of : Recorder → ℕ
heard_of recorder = recorder.heard

-- how many samples its record covers so far
abbrev pub count_of : Recorder → ℕ
count_of recorder = count_by recorder.watch.window.trip recorder.watch.window.ring.items

pub record StandsFor (common : Common) (settings : PlainLine) (k : ℕ) (past : List PlainAsdu) (recorder : Recorder) : Type 0 where
  pub same_common : recorder.common ≡ common
  pub watch : WatchStandsFor common settings k (own settings past) recorder.watch
