-- Offsets that were passed, while more may be.
use Rattle.std.specs.Prelude.{ℕ, ◌≤◌}
use Rattle.relay_settings.specs.declared.types.Common.{Common}
use Rattle.relay_settings.specs.Times.{samples}
use Rattle.goose_publish.specs.declared.pace.Pace.{Pace}
use Rattle.goose_publish.specs.Offsets.{offset_ms}
use Rattle.goose_publish.specs.Paces.{IsAt}

-- some offset with at most so many samples is the last that was passed
pub record Passing (common : Common) (age : ℕ) (pace : Pace) : Type 0 where
  pub k : ℕ
  pub at : IsAt common k pace
  pub passed : samples common.rate (offset_ms common k) ≤ age
