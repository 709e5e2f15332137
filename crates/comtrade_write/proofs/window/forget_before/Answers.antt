use Rattle.std.proofs.Common.{◌∙◌, sym}
use Rattle.comtrade_write.proofs.NumberLemmas.{from_number-first, from_number-none}
use Rattle.comtrade_write.proofs.window.forget_before.Goals as goal

pub returns-then-first-low-clause-items : goal.returns-then-first-low-clause-items
returns-then-first-low-clause-items c =
    sym (from_number-first c.args.low c.loop-first.ring.items c.in-Some.first.now c.in-Some.ensures c.if-first-low.true) ∙ c.loop-first.invariant.items

pub returns-clause-items : goal.returns-clause-items
returns-clause-items c = sym (from_number-none c.args.low c.loop-first.ring.items c.in_default.ensures) ∙ c.loop-first.invariant.items
