use Rattle.std.proofs.Common.{◌≡◌, ℕ, ◌<◌, false, get_or, List}
use Rattle.relay_settings.specs.declared.types.Common.{Common}
use Rattle.relay_settings.specs.Settings.{PlainLine}
use Rattle.sv_frame.specs.Asdu.{PlainAsdu, plain_asdu}
use Rattle.line_bank.specs.Owners.{owns}
use Rattle.line_bank.proofs.bank.LineBank.place_of.Given as goal

-- what stands before this place owns it not, whatever line it is
abbrev pub invariant-loop-place : goal.invariant-loop-place
invariant-loop-place g l = (k : ℕ) (h : g.row.E.Denot) (common : Common) (asked : g.row.E-Asked.Denot) (line : PlainLine) (asdus : List PlainAsdu) → k < l.place →
    g.E.LineElement.stands common asked line asdus (get_or l.self.lines.items k h) → owns line (plain_asdu l.a) ≡ false
