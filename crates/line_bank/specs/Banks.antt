-- A bank of lines: what its elements hold after the sample sets that were heard, the newest first, and what is told of the newest.
use Rattle.std.specs.Prelude.{ℕ, ◌≡◌, ◌<◌, ◌≤◌, ◌*◌, List, [], ◌∷◌, length, slice_index_or, Option, None, Some}
use Rattle.std.specs.List.{All}
use Rattle.std.specs.Option.{ForSome, option_map}
use Rattle.sv_frame.specs.Asdu.{PlainAsdu}
use Rattle.relay_settings.specs.Settings.{PlainLine}
use Rattle.line_bank.specs.Owners.{own, owner, HaveOwnIds}

-- Each element has heard its line's own of the sample sets: `stands` says what an element of a line holds after these.
pub record HaveHeard {H : Type 0} (stands : PlainLine → List PlainAsdu → H → Type 0) (lines : List PlainLine) (past : List PlainAsdu) (held : List H) : Type 0 where
  pub differ : HaveOwnIds lines
  pub count : length held ≡ length lines
  pub each : (place : ℕ) (d : PlainLine) (h : H) → place < length lines →
      stands (slice_index_or lines place d) (own (slice_index_or lines place d) past) (slice_index_or held place h)

-- Each element's last number is small for so many sample sets heard: each brings it on by less than a second's samples.
abbrev pub AreSmall : {H : Type 0} → (H → Option ℕ) → List H → ℕ → Type 0
AreSmall last held heard = All (λ h. ForSome (last h) (λ number. number ≤ 4800 * heard)) held

-- a line, and what it tells
pub record TellsOf (E : Type 0) : Type 0 where
  pub line : PlainLine
  pub told : E

-- what a line tells of a sample set of its own, heard behind the older ones, where `tells` is what it tells of the newest of its own
abbrev pub told_by : {E : Type 0} → (PlainLine → List PlainAsdu → E) → PlainAsdu → List PlainAsdu → PlainLine → TellsOf E
told_by tells a older line = record { line = line; told = tells line (a ∷ own line older) }

-- what is told of the newest of the sample sets heard: its owner tells it, and nothing is told where no line owns it
abbrev pub told : {E : Type 0} → (PlainLine → List PlainAsdu → E) → List PlainLine → List PlainAsdu → Option (TellsOf E)
told tells lines [] = None
told tells lines (a ∷ older) = option_map (told_by tells a older) (owner a lines)

-- the line at this place owns the newest sample set, and this is what it tells
pub record IsTold {E : Type 0} (tells : PlainLine → List PlainAsdu → E) (lines : List PlainLine) (past : List PlainAsdu) (place : ℕ) (said : E) : Type 0 where
  pub within : place < length lines
  pub line : PlainLine
  pub at_place : (d : PlainLine) → slice_index_or lines place d ≡ line
  pub is : told tells lines past ≡ Some (record { line = line; told = said })
