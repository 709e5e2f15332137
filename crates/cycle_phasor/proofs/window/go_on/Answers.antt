use Rattle.cycle_phasor.proofs.window.go_on.Goals as goal

pub returns-then-number-next-clause-state : goal.returns-then-number-next-clause-state
returns-then-number-next-clause-state c = c.forget.ensures.state c.args.number
