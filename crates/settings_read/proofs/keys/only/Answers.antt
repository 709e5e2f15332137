use Rattle.settings_read.specs.Walk.{only}
use Rattle.settings_read.proofs.MemberKeys.{keys_among-view}
use Rattle.settings_read.proofs.keys.only.Goals as goal

pub returns-then-are_among : goal.returns-then-are_among
unfolding only
returns-then-are_among c =
    rw (keys_among-view c.args.keys.now c.args.here.now.table.now.entries, ← c.are_among.ensures, c.if-are_among.true)

pub returns-else-are_among : goal.returns-else-are_among
unfolding only
returns-else-are_among c =
    rw (keys_among-view c.args.keys.now c.args.here.now.table.now.entries, ← c.are_among.ensures, c.if-are_among.false)
