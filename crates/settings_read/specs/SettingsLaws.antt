-- What is so of every settings text that is accepted, whatever it says.
use Rattle.std.specs.Prelude.{ℕ, ◌≡◌, ◌≢◌, ◌||◌, IsTrue, is_some, codes, List, Some, Ok}
use Rattle.std.specs.List.{All, AllPairs}
use Rattle.toml.specs.Data.{Members}
use Rattle.relay_settings.specs.Settings.{PlainLine, PlainSettings}
use Rattle.relay_settings.specs.declared.types.ZoneSettings.{ZoneSettings}
use Rattle.relay_settings.specs.declared.types.ZonePart.{ZonePart}
use Rattle.settings_read.specs.Walk.{required, count}
use Rattle.settings_read.specs.Accepted.{tree, top_of, accepted}

-- Of any two lines, at the places i < j, the names differ, the svIDs, and the control block references.
pub record LinesDiffer (lines : List PlainLine) : Type 0 where
  pub names : AllPairs (λ a b. a.name ≢ b.name) lines
  pub sv_ids : AllPairs (λ a b. a.sv_id ≢ b.sv_id) lines
  pub gocb_refs : AllPairs (λ a b. a.goose.gocb_ref ≢ b.goose.gocb_ref) lines

abbrev pub AcceptedLinesDiffer : Type 0
AcceptedLinesDiffer = (bytes : List ℕ) (settings : PlainSettings) → accepted bytes ≡ Ok settings → LinesDiffer settings.lines

-- a fact of each zone of each line
abbrev pub EachZone : (ZoneSettings → Type 0) → PlainSettings → Type 0
EachZone P settings = All (λ line. All P line.zones) settings.lines

-- a part is there, or both
abbrev pub HasAPart : ZoneSettings → Type 0
HasAPart zone = IsTrue (is_some zone.ground || is_some zone.phase)

abbrev pub AcceptedZonesHaveAPart : Type 0
AcceptedZonesHaveAPart = (bytes : List ℕ) (settings : PlainSettings) → accepted bytes ≡ Ok settings → EachZone HasAPart settings

-- the file's version is 1
pub record IsVersion1 (bytes : List ℕ) : Type 0 where
  pub members : Members
  pub spelled : tree bytes ≡ Some members
  pub version : required (count 1 2) (top_of members) (codes "version") ≡ Ok 1

-- the zone is to the ground loops what it is to the phase loops
pub record HasEqualParts (zone : ZoneSettings) : Type 0 where
  pub part : ZonePart
  pub to_ground : zone.ground ≡ Some part
  pub to_phase : zone.phase ≡ Some part

abbrev pub Version1PartsAreEqual : Type 0
Version1PartsAreEqual = (bytes : List ℕ) (settings : PlainSettings) → IsVersion1 bytes → accepted bytes ≡ Ok settings → EachZone HasEqualParts settings
