use Rattle.std.proofs.Common.{◌∙◌, sym, ap}
use Rattle.breaker_guard.specs.GuardTakes.{take_of}
use Rattle.breaker_guard.specs.Guarding.{listed}
use Rattle.breaker_guard.specs.KeptWatch.{WatchStep}
use Rattle.breaker_guard.proofs.StepLemmas.{next-is, kept-step}
use Rattle.breaker_guard.proofs.watch.Watch.take.Goals as goal

pub returns-clause-told : goal.returns-clause-told
returns-clause-told c waits takes stands long rises =
    let t = take_of c.args.number c.args.trip c.args.flowing in
    ap listed c.step.ensures.told ∙ ap (λ (s : WatchStep). listed s.told) (kept-step waits takes c.args.self.now stands t) ∙ sym (next-is waits long t takes rises).told

pub returns-clause-after : goal.returns-clause-after
returns-clause-after c waits takes stands long rises =
    let t = take_of c.args.number c.args.trip c.args.flowing in
    let same = kept-step waits takes c.args.self.now stands t in
    let next = next-is waits long t takes rises in
    record {
      same_waits = c.step.ensures.same_waits ∙ stands.same_waits;
      stage = c.step.ensures.stage ∙ ap (λ (s : WatchStep). s.stage) same ∙ sym next.stage;
      closed = c.step.ensures.closed ∙ ap (λ (s : WatchStep). s.closed) same ∙ sym next.closed;
    }
