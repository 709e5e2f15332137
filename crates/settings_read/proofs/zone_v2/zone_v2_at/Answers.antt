use Rattle.std.proofs.lemmas.Result.{err_from_is_err_and}
use Rattle.settings_read.specs.ZoneTableV2.{zone_v2_at}
use Rattle.settings_read.proofs.zone_v2.zone_v2_at.Goals as goal

pub returns-in_err-load_block-clause-value : goal.returns-in_err-load_block-clause-value
unfolding zone_v2_at
returns-in_err-load_block-clause-value c =
    let p = err_from_is_err_and c.from_residual-in_err-load_block.result c.from_residual-in_err-load_block.ensures.1 in
    rw (p.1, p.2, ← c.in_ok-only_zone_keys.ensures, ← c.in_ok-dir.ensures, ← c.in_ok-trip.ensures, ← c.in_ok-swing_block.ensures, ← c.in_err-load_block.ensures)

pub returns-in_err-some_part-clause-value : goal.returns-in_err-some_part-clause-value
unfolding zone_v2_at
returns-in_err-some_part-clause-value c =
    let p = err_from_is_err_and c.from_residual-in_err-some_part.result c.from_residual-in_err-some_part.ensures.1 in
    rw (p.1, p.2, ← c.in_ok-only_zone_keys.ensures, ← c.in_ok-dir.ensures, ← c.in_ok-trip.ensures, ← c.in_ok-swing_block.ensures, ← c.in_ok-load_block.ensures, ← c.in_err-some_part.ensures.value)

pub returns-in_err-ground-clause-value : goal.returns-in_err-ground-clause-value
unfolding zone_v2_at
returns-in_err-ground-clause-value c =
    let p = err_from_is_err_and c.from_residual-in_err-ground.result c.from_residual-in_err-ground.ensures.1 in
    rw (p.1, p.2, ← c.in_ok-only_zone_keys.ensures, ← c.in_ok-dir.ensures, ← c.in_ok-trip.ensures, ← c.in_ok-swing_block.ensures, ← c.in_ok-load_block.ensures, ← c.in_ok-some_part.ensures.value, ← c.in_err-ground.ensures.value)

pub returns-in_err-phase-clause-value : goal.returns-in_err-phase-clause-value
unfolding zone_v2_at
returns-in_err-phase-clause-value c =
    let p = err_from_is_err_and c.from_residual-in_err-phase.result c.from_residual-in_err-phase.ensures.1 in
    rw (p.1, p.2, ← c.in_ok-only_zone_keys.ensures, ← c.in_ok-dir.ensures, ← c.in_ok-trip.ensures, ← c.in_ok-swing_block.ensures, ← c.in_ok-load_block.ensures, ← c.in_ok-some_part.ensures.value, ← c.in_ok-ground.ensures.value, ← c.in_err-phase.ensures.value)

pub returns-clause-value : goal.returns-clause-value
unfolding zone_v2_at
returns-clause-value c =
    rw (← c.in_ok-only_zone_keys.ensures, ← c.in_ok-dir.ensures, ← c.in_ok-trip.ensures, ← c.in_ok-swing_block.ensures, ← c.in_ok-load_block.ensures, ← c.in_ok-some_part.ensures.value, ← c.in_ok-ground.ensures.value, ← c.in_ok-phase.ensures.value)
