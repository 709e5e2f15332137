-- What is so of every settings text that is accepted.
use Rattle.std.proofs.Common.{◌≡◌, ℕ, List, codes, Some, Ok, refl, rules, ap, ◌∙◌, sym}
use Rattle.std.specs.Prelude.{IfOk}
use Rattle.std.specs.List.{All}
use Rattle.toml.specs.Data.{Members}
use Rattle.relay_settings.specs.Settings.{PlainLine, PlainSettings}
use Rattle.settings_read.specs.declared.version.Version.{Version}
use Rattle.settings_read.specs.declared.version.Version.TheVariants.{One}
use Rattle.settings_read.specs.Walk.{Place, there, required, count}
use Rattle.settings_read.specs.LineList.{lines_of}
use Rattle.settings_read.specs.TopTable.{version_at, settings_at}
use Rattle.settings_read.specs.Accepted.{tree, top_of, accepted}
use Rattle.settings_read.specs.SettingsLaws.{LinesDiffer, AcceptedLinesDiffer, AcceptedZonesHaveAPart, HasAPart, HasEqualParts, Version1PartsAreEqual}
use Rattle.settings_read.proofs.Chains.{then_ok, at_ok, was_there}
use Rattle.settings_read.proofs.ZoneFacts.{zone-part, zone_v1-equal}
use Rattle.settings_read.proofs.LineFacts.{lines-differ, lines-zones}

-- a fact of the lines of every version that the file may have
module _ (bytes : List ℕ) (Good : List PlainLine → Type 0)
    (good : (members : Members) (version : Version) (lines : List PlainLine) → tree bytes ≡ Some members → version_at (top_of members) ≡ Ok version → lines_of version (top_of members) ≡ Ok lines → Good lines) where
  from_top : (ms : Members) → tree bytes ≡ Some ms → IfOk (settings_at (top_of ms)) (λ s. Good s.lines)
  unfolding settings_at
  from_top ms spelled = search (rules, then_ok, good)

  from_there : (ms : Members) → there (tree bytes) 2 (codes "file") ≡ Ok ms → IfOk (settings_at (top_of ms)) (λ s. Good s.lines)
  from_there ms is = from_top ms (was_there (tree bytes) 2 (codes "file") ms is)

  from_bytes : IfOk (accepted bytes) (λ s. Good s.lines)
  unfolding accepted
  from_bytes = search (rules, then_ok, from_there)

  pub accepted-good : (settings : PlainSettings) → accepted bytes ≡ Ok settings → Good settings.lines
  accepted-good settings is = at_ok (λ s. Good s.lines) (accepted bytes) settings from_bytes is

pub accepted-differ : AcceptedLinesDiffer
accepted-differ bytes =
    accepted-good bytes LinesDiffer (λ members version lines spelled of is. at_ok LinesDiffer (lines_of version (top_of members)) lines (lines-differ version (top_of members)) is)

pub accepted-part : AcceptedZonesHaveAPart
accepted-part bytes =
    accepted-good bytes (All (λ l. All HasAPart l.zones))
    (λ members version lines spelled of is. at_ok (All (λ l. All HasAPart l.zones)) (lines_of version (top_of members)) lines (lines-zones version HasAPart (zone-part version) (top_of members)) is)

version_one : (top : Place) → required (count 1 2) top (codes "version") ≡ Ok 1 → version_at top ≡ Ok One
unfolding version_at
version_one top is = rw is refl

pub version-1-equal : Version1PartsAreEqual
version-1-equal bytes settings one =
    accepted-good bytes (All (λ l. All HasEqualParts l.zones))
    (λ members version lines spelled of is.
    let same : one.members ≡ members = let e : Some one.members ≡ Some members = sym one.spelled ∙ spelled in cc in
    let first : version_at (top_of members) ≡ Ok One = ap (λ ms. version_at (top_of ms)) (sym same) ∙ version_one (top_of one.members) one.version in
    let is_one : version ≡ One = let e : Ok version ≡ Ok One = sym of ∙ first in cc in
    at_ok (All (λ l. All HasEqualParts l.zones)) (lines_of One (top_of members)) lines (lines-zones One HasEqualParts zone_v1-equal (top_of members)) (ap (λ v. lines_of v (top_of members)) (sym is_one) ∙ is))
    settings
