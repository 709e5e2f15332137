use Rattle.std.proofs.lemmas.Result.{err_from_is_err_and}
use Rattle.settings_read.specs.ZoneTableV1.{zone_v1_at}
use Rattle.settings_read.proofs.zone_v1.zone_v1_at.Goals as goal

pub returns-in_err-load_block-clause-value : goal.returns-in_err-load_block-clause-value
unfolding zone_v1_at
returns-in_err-load_block-clause-value c =
    let p = err_from_is_err_and c.from_residual-in_err-load_block.result c.from_residual-in_err-load_block.ensures.1 in
    rw (p.1, p.2, ← c.in_ok-is_quad.ensures, ← c.in_ok-only_keys_v1.ensures, ← c.in_ok-dir.ensures, ← c.in_ok-shape.ensures.value, ← c.in_ok-delay_ms.ensures.value, ← c.in_ok-trip.ensures, ← c.in_ok-swing_block.ensures, ← c.in_err-load_block.ensures)

pub returns-clause-value : goal.returns-clause-value
unfolding zone_v1_at
returns-clause-value c =
    rw (← c.in_ok-is_quad.ensures, ← c.in_ok-only_keys_v1.ensures, ← c.in_ok-dir.ensures, ← c.in_ok-shape.ensures.value, ← c.in_ok-delay_ms.ensures.value, ← c.in_ok-trip.ensures, ← c.in_ok-swing_block.ensures, ← c.in_ok-load_block.ensures)
