use Rattle.std.proofs.Common.{◌∙◌, sym, ap}
use Rattle.breaker_guard.proofs.StepLemmas.{is_standing, not-standing, stage-is}
use Rattle.breaker_guard.proofs.watch.Watch.stands.Goals as goal

pub returns-in-Standing : goal.returns-in-Standing
returns-in-Standing c waits takes stands = ap is_standing (sym c.in-Standing.is) ∙ stage-is waits takes c.args.self.now stands

pub returns-in_default : goal.returns-in_default
returns-in_default c waits takes stands =
    sym (not-standing c.args.self.now.stage (λ rise failed final' e. c.in_default.not-Standing rise failed final' e)) ∙ stage-is waits takes c.args.self.now stands
