use Rattle.std.proofs.Common.{ℕ, ◌+◌, ◌-◌, ◌<◌, ◌≤◌, ◌^◌}
use Rattle.relay_settings.specs.declared.types.Common.{Common}
use Rattle.relay_settings.specs.Times.{samples}
use Rattle.goose_publish.specs.Offsets.{offset_ms}
use Rattle.goose_publish.specs.Paces.{IsAt}
use Rattle.goose_publish.proofs.PassedOffsets.{Passing}
use Rattle.goose_publish.proofs.pace.Pace.pass.Given as goal

abbrev pub invariant-loop-self : goal.invariant-loop-self
invariant-loop-self l = record {
  short : l.age < 2 ^ 61;
  going : (common : Common) (k : ℕ) → IsAt common k l.fn.self → samples common.rate (offset_ms common k) ≤ l.age →
      Passing common l.age l.self;
}

abbrev pub decreases-loop-self : goal.decreases-loop-self
decreases-loop-self l = l.age + 1 - l.self.next_ms
