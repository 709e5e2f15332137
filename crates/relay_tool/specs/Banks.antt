-- What the bank of a study holds.
use Rattle.std.specs.Prelude.{ℕ, ◌≡◌, List}
use Rattle.sv_frame.specs.Asdu.{PlainAsdu}
use Rattle.relay_settings.specs.Settings.{PlainLine, plain_settings}
use Rattle.line_bank.specs.Banks.{told}
use Rattle.line_bank.specs.KeptBank.{StandsFor}
use Rattle.line_bank.specs.declared.element.LineElement.{Ghosts}
use Rattle.line_bank.specs.declared.bank.LineBank.{LineBank}
use Rattle.relay_tool.specs.Output.{Item, Tells, owner_items}
use Rattle.relay_tool.specs.declared.study_bank.StudyBank.{StudyBank}

abbrev pub elements_of : {E Asked Told : Type 0} {g : Ghosts E Asked Told} → StudyBank E Asked Told g → LineBank E Asked Told g
elements_of bank = bank.elements

-- what is written of the newest of some sample sets, where this is what a line tells of the newest of its own
abbrev pub studied_items : {Said : Type 0} → (List ℕ → Said → List Item) → (PlainLine → List PlainAsdu → Said) → List PlainLine → Tells
studied_items items tells lines past = owner_items items (told tells lines past)

-- set to what was asked, each sample set is told by the element of its owner in the lines of what that says, and these were
-- heard; `items` are the lines of what is told
pub record TellsStudied {E Asked Told : Type 0} {g : Ghosts E Asked Told} (items : List ℕ → Told → List Item) (bank : StudyBank E Asked Told g) (tells : Tells) (past : List PlainAsdu) : Type 0 where
  pub asked : Asked
  pub lines : List ℕ → g.Said → List Item
  pub agree : (name : List ℕ) (told : Told) → items name told ≡ lines name (g.said told)
  pub is : studied_items lines (g.tells bank.settings.common asked) (plain_settings bank.settings).lines ≡ tells
  pub stands : StandsFor (plain_settings bank.settings) asked past (elements_of bank)
