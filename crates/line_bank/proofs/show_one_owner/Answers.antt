use Rattle.line_bank.proofs.BankLaws.{one-owner}
use Rattle.line_bank.proofs.show_one_owner.Goals as goal

pub returns : goal.returns
returns c = one-owner
