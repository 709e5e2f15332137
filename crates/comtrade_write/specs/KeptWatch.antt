-- What the watch on a line holds after the line's own sample sets, the newest first.
use Rattle.std.specs.Prelude.{ℕ, List, Option}
use Rattle.relay_settings.specs.declared.types.Common.{Common}
use Rattle.relay_settings.specs.Settings.{PlainLine}
use Rattle.sv_frame.specs.Asdu.{PlainAsdu}
use Rattle.line_relay.specs.Outcomes.{taken_samples}
use Rattle.line_relay.specs.Fronts.{last_of as last_of_front, StandsFor as FrontStandsFor}
use Rattle.line_relay.specs.KeptLine.{StandsFor as LineStandsFor}
use Rattle.comtrade_write.specs.declared.watch.Watch.{Watch}
use Rattle.comtrade_write.specs.Covered.{recorded}
use Rattle.comtrade_write.specs.KeptWindow.{StandsFor as WindowStandsFor}

-- the last number that the front has taken
abbrev pub front_last : Watch → Option ℕ
front_last watch = last_of_front watch.front

-- how many trips have begun
abbrev pub trips_by : Watch → ℕ
trips_by watch = watch.window.trips

pub record StandsFor (common : Common) (settings : PlainLine) (k : ℕ) (asdus : List PlainAsdu) (watch : Watch) : Type 0 where
  pub line : LineStandsFor common settings asdus watch.line
  pub front : FrontStandsFor common settings asdus watch.front
  pub window : WindowStandsFor common.n k (recorded common settings (taken_samples common settings asdus)) watch.window
