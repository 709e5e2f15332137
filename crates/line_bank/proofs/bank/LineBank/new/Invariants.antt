use Rattle.std.proofs.Common.{◌≡◌, length}
use Rattle.line_bank.proofs.BankLaws.{AreNew}
use Rattle.line_bank.proofs.bank.LineBank.new.Given as goal

abbrev pub invariant-loop-settings : goal.invariant-loop-settings
invariant-loop-settings g l = record {
  count : length l.lines.items ≡ l.settings-index;
  made : AreNew (g.E.LineElement.stands l.s.common l.asked) g.E.LineElement.last l.s.lines.items l.lines.items l.settings-index;
}
