use Rattle.swing_block.proofs.swing.Swing.take.Goals as goal

pub returns-clause-after : goal.returns-clause-after
returns-clause-after c s rate takes stands = c.note.ensures s rate takes c.args.unbalanced stands
