use Rattle.settings_read.proofs.zone_v1.only_keys_v1.Goals as goal

pub returns-then-is_quad : goal.returns-then-is_quad
returns-then-is_quad c = rw c.if-is_quad.true c.only.ensures

pub returns-else-is_quad : goal.returns-else-is_quad
returns-else-is_quad c = rw c.if-is_quad.false c.only-else-is_quad.ensures
