-- A line's part of what is written, and what a malformed frame adds.
use Rattle.std.specs.Prelude.{ℕ, ◌≡◌, ◌+◌, ◌<◌, Bool, false, List, [], ◌∷◌, ◌++◌, length, filter, slice_index_or, Option, Some, None, Ok}
use Rattle.std.specs.Str.{bytes_eq}
use Rattle.sv_frame.specs.Asdu.{PlainAsdu}
use Rattle.sv_frame.specs.Frame.{bad}
use Rattle.sv_frame.specs.declared.Reason.{Reason}
use Rattle.relay_settings.specs.Settings.{PlainLine, PlainSettings}
use Rattle.settings_read.specs.Accepted.{accepted}
use Rattle.line_bank.specs.Owners.{own}
use Rattle.relay_tool.specs.Output.{Item, Tells, solo, reading, sets_of, heard, heard_items, items_from, out, malformed_item}

-- whether an item is part of the line of this name
abbrev pub is_of : List ℕ → Option (List ℕ) → Bool
is_of name None = false
is_of name (Some line) = bytes_eq line name

abbrev pub part : List ℕ → List Item → List Item
part name items = filter (λ item. is_of name item.line) items

-- all sample sets of these records, the oldest first
abbrev pub sample_sets : List (List ℕ) → List PlainAsdu
sample_sets [] = []
sample_sets (body ∷ bodies) = sets_of (reading body) ++ sample_sets bodies

-- a line's part of what is written of these records
abbrev pub part_of : PlainSettings → List (List ℕ) → PlainLine → List Item
part_of settings bodies line = part line.name (out (heard_items settings) bodies)

-- the line's own sample sets of these records
abbrev pub own_of : List (List ℕ) → PlainLine → List PlainAsdu
own_of bodies line = own line (sample_sets bodies)

-- each line's part is what its own sample sets alone would give
abbrev pub LinesAreApart : PlainSettings → List (List ℕ) → Type 0
LinesAreApart settings bodies = (place : ℕ) (d : PlainLine) → place < length settings.lines →
    part_of settings bodies (slice_index_or settings.lines place d) ≡ solo settings.common (slice_index_or settings.lines place d) (own_of bodies (slice_index_or settings.lines place d))

-- so it is for every accepted settings file and every capture
abbrev pub AcceptedAreApart : Type 0
AcceptedAreApart = (text : List ℕ) (settings : PlainSettings) (bodies : List (List ℕ)) → accepted text ≡ Ok settings → LinesAreApart settings bodies

-- a line of accepted settings, which stands at this place, and records
pub record IsLineOf (text : List ℕ) (settings : PlainSettings) (line : PlainLine) : Type 0 where
  pub accepted : accepted text ≡ Ok settings
  pub place : ℕ
  pub within : place < length settings.lines
  pub is : (d : PlainLine) → slice_index_or settings.lines place d ≡ line

-- Two runs with equal common settings write equal parts of a line that both have and whose own sample sets are equal, whatever else
-- the settings and the captures hold.
abbrev pub PartsAreEqual : Type 0
PartsAreEqual = (text text' : List ℕ) (settings settings' : PlainSettings) (bodies bodies' : List (List ℕ)) (line : PlainLine) →
    IsLineOf text settings line → IsLineOf text' settings' line → settings.common ≡ settings'.common → own_of bodies line ≡ own_of bodies' line →
    part_of settings bodies line ≡ part_of settings' bodies' line

-- what is written with a malformed frame among other records, and what without it
pub record AddsItsLine (tells : Tells) (before : List (List ℕ)) (body : List ℕ) (reason : Reason) (after : List (List ℕ)) : Type 0 where
  -- its own line, and behind it the same records, counted one further
  pub with_it : out tells (before ++ body ∷ after)
      ≡ out tells before ++ malformed_item (length before + 1) reason ∷ items_from tells (length before + 2) (heard [] before) after
  pub without_it : out tells (before ++ after) ≡ out tells before ++ items_from tells (length before + 1) (heard [] before) after
  -- it changes no line's part
  pub same_parts : (name : List ℕ) → part name (out tells (before ++ body ∷ after)) ≡ part name (out tells (before ++ after))

abbrev pub MalformedAddsItsLine : Tells → Type 0
MalformedAddsItsLine tells = (before after : List (List ℕ)) (body : List ℕ) (reason : Reason) → reading body ≡ bad reason →
    AddsItsLine tells before body reason after
