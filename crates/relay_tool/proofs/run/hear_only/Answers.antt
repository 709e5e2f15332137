use Rattle.relay_tool.proofs.Framing.{malformed-treats}
use Rattle.relay_tool.proofs.run.hear_only.Goals as goal

pub returns-in-Err-clause-treats : goal.returns-in-Err-clause-treats
returns-in-Err-clause-treats g c = malformed-treats _ c.args.number c.in-Err.reason _ _ c.in-Err.ensures.exact c.put_malformed.ensures
