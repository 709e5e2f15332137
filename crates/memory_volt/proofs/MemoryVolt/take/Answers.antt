use Rattle.memory_volt.proofs.MemoryVolt.take.Goals as goal

pub returns-clause-small : goal.returns-clause-small
returns-clause-small g c bound holds plus_small =
    let after = c.note.ensures.small bound holds plus_small in (after.frozen, after)
