-- How far the offsets of repeated GOOSE frames have come.
use Rattle.std.specs.Prelude.{ℕ, suc, ◌≡◌, ◌<◌, ◌≤◌}
use Rattle.relay_settings.specs.declared.types.Common.{Common}
use Rattle.relay_settings.specs.Times.{samples}
use Rattle.goose_publish.specs.declared.pace.Pace.{Pace}
use Rattle.goose_publish.specs.Offsets.{step_ms, offset_ms}

-- the offset k is passed, and the one after it is next
pub record IsAt (common : Common) (k : ℕ) (pace : Pace) : Type 0 where
  pub rate : pace.rate ≡ common.rate
  pub heartbeat : pace.heartbeat_ms ≡ common.heartbeat_ms
  pub step : pace.step_ms ≡ step_ms common k
  pub next : pace.next_ms ≡ offset_ms common (suc k)

-- exactly the offsets with at most so many samples are passed
pub record Passed (common : Common) (age : ℕ) (pace : Pace) : Type 0 where
  pub k : ℕ
  pub at : IsAt common k pace
  pub passed : samples common.rate (offset_ms common k) ≤ age
  pub ahead : age < samples common.rate (offset_ms common (suc k))
