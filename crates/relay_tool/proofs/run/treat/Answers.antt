use Rattle.relay_tool.proofs.Framing.{malformed-treats}
use Rattle.relay_tool.proofs.run.treat.Goals as goal

pub returns-in-Bad-clause-treats : goal.returns-in-Bad-clause-treats
returns-in-Bad-clause-treats g c = malformed-treats _ c.args.number c.in-Bad.reason _ _ c.in-Bad.ensures.exact c.put_malformed.ensures
