-- What the guard of one line holds after its own sample sets, the newest first.
use Rattle.std.specs.Prelude.{ℕ, ◌≡◌, List, Option}
use Rattle.relay_settings.specs.declared.types.Common.{Common}
use Rattle.relay_settings.specs.Settings.{PlainLine}
use Rattle.sv_frame.specs.Asdu.{PlainAsdu}
use Rattle.line_relay.specs.Outcomes.{taken_samples}
use Rattle.line_relay.specs.Fronts.{last_of as last_of_front, StandsFor as FrontStandsFor}
use Rattle.line_relay.specs.KeptLine.{last_of as last_of_line, StandsFor as LineStandsFor}
use Rattle.breaker_guard.specs.declared.waits.GuardTimes.{GuardTimes}
use Rattle.breaker_guard.specs.declared.guard.Guard.{Guard}
use Rattle.breaker_guard.specs.GuardTakes.{guard_takes}
use Rattle.breaker_guard.specs.Guarding.{waits_of, AreWaits}
use Rattle.breaker_guard.specs.KeptWatch.{StandsFor as WatchStandsFor}

-- the last number that was taken by the line, and by the front
abbrev pub line_last : Guard → Option ℕ
line_last guard = last_of_line guard.line

abbrev pub front_last : Guard → Option ℕ
front_last guard = last_of_front guard.front

pub record StandsFor (common : Common) (settings : PlainLine) (times : GuardTimes) (asdus : List PlainAsdu) (guard : Guard) : Type 0 where
  pub same_common : guard.common ≡ common
  pub same_sv_id : guard.sv_id.items ≡ settings.sv_id
  pub same_open_i : guard.open_i ≡ settings.open_i
  pub line : LineStandsFor common settings asdus guard.line
  pub front : FrontStandsFor common settings asdus guard.front
  pub waits : AreWaits (waits_of common.rate times)
  pub watch : WatchStandsFor (waits_of common.rate times) (guard_takes common settings (taken_samples common settings asdus)) guard.watch
