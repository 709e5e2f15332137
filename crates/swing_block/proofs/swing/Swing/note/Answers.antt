use Rattle.std.proofs.Common.{◌∙◌, sym}
use Rattle.swing_block.specs.Swinging.{take_of}
use Rattle.swing_block.proofs.SwingLemmas.{outside_next, aged_next, first_next, none_next}
use Rattle.swing_block.proofs.swing.Swing.note.Goals as goal

pub returns-in-Some : goal.returns-in-Some
returns-in-Some c s rate takes unbalanced stands =
    rw c.run_after.ensures
    (aged_next s rate takes c.args.self.now stands (take_of c.args.place unbalanced) c.run_after-self.result
    (rw (← c.is_between.ensures) c.run_after-self.ensures)
    (sym c.is_within.ensures ∙ c.if-is_within.true) c.in-Some.age c.in-Some.is)

pub returns-then-self : goal.returns-then-self
returns-then-self c s rate takes unbalanced stands =
    first_next s rate takes c.args.self.now stands (take_of c.args.place unbalanced) c.run_after-self.result
    (rw (← c.is_between.ensures) c.run_after-self.ensures)
    (sym c.is_within.ensures ∙ c.if-is_within.true) c.in-None.is c.if-self.true

pub returns-else-self : goal.returns-else-self
returns-else-self c s rate takes unbalanced stands =
    none_next s rate takes c.args.self.now stands (take_of c.args.place unbalanced) c.run_after-self.result
    (rw (← c.is_between.ensures) c.run_after-self.ensures)
    (sym c.is_within.ensures ∙ c.if-is_within.true) c.in-None.is c.if-self.false

pub returns-else-is_within : goal.returns-else-is_within
returns-else-is_within c s rate takes unbalanced stands =
    outside_next s rate takes c.args.self.now stands (take_of c.args.place unbalanced) c.run_after-self.result
    (rw (← c.is_between.ensures) c.run_after-self.ensures)
    (sym c.is_within.ensures ∙ c.if-is_within.false)
