-- The offsets at which a GOOSE frame is repeated after a change, with steps that double up to the heartbeat
-- (the retransmission strategy of IEC 61850-8-1).
use Rattle.std.specs.Prelude.{ℕ, zero, suc, ◌+◌, ◌*◌, ◌^◌, min}
use Rattle.relay_settings.specs.declared.types.Common.{Common}

-- the steps are 4, 8, 16 and so on, each at most the heartbeat
abbrev pub step_ms : Common → ℕ → ℕ
step_ms common k = min (4 * 2 ^ k) common.heartbeat_ms

-- the offsets are 0 and then the sums of the steps
unfoldable pub offset_ms : Common → ℕ → ℕ
offset_ms common zero = 0
offset_ms common (suc k) = offset_ms common k + step_ms common k
