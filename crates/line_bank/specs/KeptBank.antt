-- What a bank of lines holds after the sample sets that it heard, the newest first.
use Rattle.std.specs.Prelude.{ℕ, List}
use Rattle.relay_settings.specs.Settings.{PlainSettings}
use Rattle.sv_frame.specs.Asdu.{PlainAsdu}
use Rattle.line_bank.specs.declared.element.LineElement.{Ghosts}
use Rattle.line_bank.specs.declared.bank.LineBank.{LineBank}
use Rattle.line_bank.specs.Banks.{HaveHeard}

abbrev pub lines_of : {E Asked Told : Type 0} {g : Ghosts E Asked Told} → LineBank E Asked Told g → List E
lines_of bank = bank.lines.items

-- how many sample sets a bank has heard
abbrev pub heard_of : {E Asked Told : Type 0} {g : Ghosts E Asked Told} → LineBank E Asked Told g → ℕ
heard_of bank = bank.heard

-- the bank of these settings, whose svIDs differ, set to what is asked: each line after its own of the sample sets
abbrev pub StandsFor : {E Asked Told : Type 0} {g : Ghosts E Asked Told} → PlainSettings → Asked → List PlainAsdu → LineBank E Asked Told g → Type 0
StandsFor {E} {Asked} {Told} {g} settings asked past bank = HaveHeard (g.stands settings.common asked) settings.lines past (lines_of bank)
