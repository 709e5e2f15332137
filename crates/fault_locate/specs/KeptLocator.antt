-- What the locator of one line holds after its own sample sets, the newest first.
use Rattle.std.specs.Prelude.{ℕ, ◌≡◌, List, Option}
use Rattle.relay_settings.specs.declared.types.Common.{Common}
use Rattle.relay_settings.specs.Settings.{PlainLine, plain_line}
use Rattle.sv_frame.specs.Asdu.{PlainAsdu}
use Rattle.line_relay.specs.LineSamples.{Numbered}
use Rattle.line_relay.specs.Outcomes.{taken_samples}
use Rattle.line_relay.specs.Fronts.{last_of as last_of_front, StandsFor as FrontStandsFor}
use Rattle.line_relay.specs.KeptLine.{last_of as last_of_line, StandsFor as LineStandsFor}
use Rattle.fault_locate.specs.declared.lookback.Lookback.{Lookback}
use Rattle.fault_locate.specs.declared.waiting.Waiting.{Waiting}
use Rattle.fault_locate.specs.declared.locator.Locator.{Locator}
use Rattle.fault_locate.specs.KeptLookback.{currents_of_run, StandsFor as LookbackStandsFor}
use Rattle.fault_locate.specs.KeptWaiting.{waiting_at}

-- the last number that was taken by the line, and by the front
abbrev pub line_last : Locator → Option ℕ
line_last locator = last_of_line locator.line

abbrev pub front_last : Locator → Option ℕ
front_last locator = last_of_front locator.front

-- the lookback and the trip that waits, after these samples
pub record HoldsFor (common : Common) (settings : PlainLine) (past : List Numbered) (kept : Lookback) (trip : Option Waiting) : Type 0 where
  pub lookback : LookbackStandsFor common.n (currents_of_run common settings past) kept
  pub waiting : trip ≡ waiting_at common settings past

pub record StandsFor (common : Common) (settings : PlainLine) (asdus : List PlainAsdu) (locator : Locator) : Type 0 where
  pub same_common : locator.common ≡ common
  pub same_settings : plain_line locator.settings ≡ settings
  pub line : LineStandsFor common settings asdus locator.line
  pub front : FrontStandsFor common settings asdus locator.front
  pub holds : HoldsFor common settings (taken_samples common settings asdus) locator.lookback locator.waiting
