-- From the bytes of a file to the walk over its tree.
use Rattle.std.proofs.Common.{◌≡◌, ℕ, ◌≤◌, le-leb, List, codes, length, Some, None, Err, inl, inr}
use Rattle.std.specs.Prelude.{IsUtf8}
use Rattle.std.specs.Str.{is_utf8}
use Rattle.std.proofs.lemmas.Bool.{cases_Bool}
use Rattle.std.proofs.lemmas.Str.{IsUtf8-from_is_utf8, is_utf8-from_IsUtf8}
use Rattle.toml.specs.Data.{Members}
use Rattle.toml.specs.Parse.{parse_document}
use Rattle.settings_read.specs.Walk.{refused}
use Rattle.settings_read.specs.TopTable.{settings_at}
use Rattle.settings_read.specs.Accepted.{tree, top_of, accepted}

pub tree-text : (bytes : List ℕ) → IsUtf8 bytes → tree bytes ≡ parse_document bytes
tree-text bytes text = rw (is_utf8-from_IsUtf8 bytes text)

pub tree-no_text : (bytes : List ℕ) → (IsUtf8 bytes → ⊥) → tree bytes ≡ None
tree-no_text bytes other =
    elim (cases_Bool (is_utf8 bytes)) [
      | inl text ↦ absurd (other (IsUtf8-from_is_utf8 bytes text))
      | inr none ↦ rw none
    ]

pub accepted-none : (bytes : List ℕ) → length bytes ≤ 1048576 → tree bytes ≡ None → Err (refused 2 (codes "file")) ≡ accepted bytes
unfolding accepted
accepted-none bytes small none = rw (le-leb (length bytes) 1048576 small, none)

pub accepted-some : (bytes : List ℕ) (ms : Members) → length bytes ≤ 1048576 → tree bytes ≡ Some ms → settings_at (top_of ms) ≡ accepted bytes
unfolding accepted
accepted-some bytes ms small some = rw (le-leb (length bytes) 1048576 small, some)
