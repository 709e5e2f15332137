use Rattle.std.proofs.Common.{drop}
use Rattle.ber_fields.proofs.ElementLaws.{is_found, is_none}
use Rattle.ber_fields.proofs.read.head.Goals as goal

pub returns-clause-found : goal.returns-clause-found
returns-clause-found g c = is_found c.args.bytes.now (drop c.args.at c.args.bytes.now) c.head_at.result c.head_at.ensures.exact

pub returns-clause-none : goal.returns-clause-none
returns-clause-none g c = is_none c.args.bytes.now (drop c.args.at c.args.bytes.now) c.head_at.result c.head_at.ensures.exact
