-- A line by its name.
use Rattle.std.proofs.Common.{◌≡◌, ◌∙◌, ℕ, suc, ◌<◌, true, false, refl, ap, arith, List, [], ◌∷◌, length, get_or}
use Rattle.std.specs.Prelude.{None, Some}
use Rattle.std.specs.Str.{bytes_eq}
use Rattle.std.proofs.lemmas.Bool.{cond-false}
use Rattle.std.proofs.lemmas.List.{get_or-map, length-map}
use Rattle.line_bank.proofs.BankLaws.{find-first}
use Rattle.relay_settings.specs.declared.types.LineSettings.{LineSettings}
use Rattle.relay_settings.specs.Settings.{PlainLine, plain_line, plain_lines}
use Rattle.relay_tool.specs.Run.{line_named}

-- the first line with the name
pub named-first : (lines : List LineSettings) (name : List ℕ) (place : ℕ) (h : LineSettings) → place < length lines → ((k : ℕ) (x : LineSettings) → k < place → bytes_eq (get_or lines k x).name.items name ≡ false) →
    bytes_eq (get_or lines place h).name.items name ≡ true → (d : PlainLine) → line_named name (plain_lines lines) ≡ Some (get_or (plain_lines lines) place d)
named-first lines name place h within before here d =
    find-first (λ (line : PlainLine). bytes_eq line.name name) (plain_lines lines) place d (omega (arith, length-map lines plain_line))
    (λ k l. ap (λ (x : PlainLine). bytes_eq x.name name) (get_or-map plain_line lines k h d (omega (arith, l, within))) ∙ before k h l)
    (ap (λ (x : PlainLine). bytes_eq x.name name) (get_or-map plain_line lines place h d within) ∙ here)

-- where none has it
pub named-none : (lines : List LineSettings) (name : List ℕ) → ((k : ℕ) (x : LineSettings) → k < length lines → bytes_eq (get_or lines k x).name.items name ≡ false) → line_named name (plain_lines lines) ≡ None
named-none [] name none = refl
named-none (line ∷ lines) name none = cond-false _ _ _ (none 0 line (omega arith)) ∙ named-none lines name (λ k x l. none (suc k) x (omega (arith, l)))
