-- Whose a sample set is: the line's that has its svID (IEC 61850-9-2).
use Rattle.std.specs.Prelude.{◌≡◌, ◌≢◌, ◌<◌, ℕ, Bool, true, List, length, slice_index_or, filter, find, Option}
use Rattle.std.specs.List.{AllPairs}
use Rattle.std.specs.Str.{bytes_eq}
use Rattle.sv_frame.specs.Asdu.{PlainAsdu}
use Rattle.relay_settings.specs.Settings.{PlainLine}

abbrev pub owns : PlainLine → PlainAsdu → Bool
owns line a = bytes_eq line.sv_id a.sv_id

-- a line's own of some sample sets
abbrev pub own : PlainLine → List PlainAsdu → List PlainAsdu
own line asdus = filter (λ a. owns line a) asdus

abbrev pub owner : PlainAsdu → List PlainLine → Option PlainLine
owner a lines = find (λ line. owns line a) lines

-- as the svIDs of accepted settings do
abbrev pub HaveOwnIds : List PlainLine → Type 0
HaveOwnIds lines = AllPairs (λ a b. a.sv_id ≢ b.sv_id) lines

-- of lines whose svIDs differ, one at most owns a sample set
abbrev pub HaveOneOwner : Type 0
HaveOneOwner = (lines : List PlainLine) (a : PlainAsdu) (i j : ℕ) (d : PlainLine) → HaveOwnIds lines → i < length lines → j < length lines →
    owns (slice_index_or lines i d) a ≡ true → owns (slice_index_or lines j d) a ≡ true → i ≡ j
