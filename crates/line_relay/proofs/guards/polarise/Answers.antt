use Rattle.std.proofs.Common.{◌^◌}
use Rattle.line_relay.proofs.guards.polarise.Goals as goal

pub returns-in-Some-clause-small : goal.returns-in-Some-clause-small
returns-in-Some-clause-small g c small = c.take.ensures.small (2 ^ 32) small c.measure-m.ensures.size.voltage.plus

pub returns-in-None-clause-small : goal.returns-in-None-clause-small
returns-in-None-clause-small g c small = (λ x e. cc, c.clear.ensures.small (2 ^ 32))
