use Rattle.cycle_phasor.proofs.window.take_values.Goals as goal

pub returns-clause-items : goal.returns-clause-items
returns-clause-items g c = rw c.in-Some.is (rw (c.go_on.ensures.n, c.go_on.ensures.items) at c.slide.ensures.items)
