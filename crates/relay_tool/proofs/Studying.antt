-- What a study's bank tells of a sample set, written.
use Rattle.std.proofs.Common.{◌≡◌, ◌∙◌, ℕ, ◌<◌, List, [], ◌∷◌, length, get_or, sym, ap, subst}
use Rattle.std.specs.Prelude.{Result, Option, None}
use Rattle.std.specs.Option.{option_map}
use Rattle.std.proofs.lemmas.List.{get_or-map}
use Rattle.room_io.specs.Room.{RoomState}
use Rattle.sv_frame.specs.Asdu.{PlainAsdu}
use Rattle.relay_settings.specs.Settings.{PlainLine, plain_line, plain_settings}
use Rattle.relay_settings.specs.declared.types.LineSettings.{LineSettings}
use Rattle.relay_settings.specs.declared.types.Settings.{Settings}
use Rattle.line_bank.specs.Owners.{owner}
use Rattle.line_bank.specs.Banks.{TellsOf, told_by, IsTold}
use Rattle.relay_tool.specs.Output.{Item, owner_items}
use Rattle.relay_tool.specs.Banks.{studied_items}
use Rattle.relay_tool.specs.Making.{Makes}
use Rattle.relay_tool.specs.declared.put.Failed.{Failed}

-- the name of the line at a place
pub name-at : (settings : Settings) (place : ℕ) (line : PlainLine) (held : LineSettings) → place < length settings.lines.items → ((d : PlainLine) → get_or (plain_settings settings).lines place d ≡ line) →
    held ≡ get_or settings.lines.items place held → held.name.items ≡ line.name
name-at settings place line held within at is =
    ap (λ (l : LineSettings). l.name.items) is ∙ ap (λ (l : PlainLine). l.name) (sym (get_or-map plain_line settings.lines.items place held line within) ∙ at line)

module _ {Said : Type 0} (items : List ℕ → Said → List Item) (tells : PlainLine → List PlainAsdu → Said) (lines : List PlainLine) where
  -- nothing is told of a sample set that no line owns
  pub none-studied : (past : List PlainAsdu) (a : PlainAsdu) → owner a lines ≡ None → studied_items items tells lines (a ∷ past) ≡ []
  none-studied past a none = ap (λ o. owner_items items (option_map (told_by tells a past) o)) none

  -- what the owner tells is what is written
  pub studied-made : (past : List PlainAsdu) (place : ℕ) (name : List ℕ) (said : Said) {x y : RoomState} {result : Result (Unit {0}) Failed} →
      (told_is : IsTold tells lines past place said) → name ≡ told_is.line.name → Makes (items name said) x y result → Makes (studied_items items tells lines past) x y result
  studied-made past place name said {x} {y} {result} told_is named made =
      subst (λ (o : Option (TellsOf Said)). Makes (owner_items items o) x y result) (sym told_is.is)
      (subst (λ (n : List ℕ). Makes (items n said) x y result) named made)
