use Rattle.settings_read.specs.LineTable.{limits_at}
use Rattle.settings_read.proofs.line.limits_at.Goals as goal

pub returns-clause-value : goal.returns-clause-value
unfolding limits_at
returns-clause-value c =
    rw (← c.in_ok-i_min.ensures.value, ← c.in_ok-i0_min.ensures.value, ← c.in_ok-dir_i2.ensures.value, ← c.in_ok-mem_u.ensures.value, ← c.in_ok-mem_ms.ensures.value, ← c.in_ok-trip_min_ms.ensures.value, ← c.in_ok-open_i.ensures.value, ← c.in_ok-open_ms.ensures.value)
