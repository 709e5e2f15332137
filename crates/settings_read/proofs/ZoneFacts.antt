-- What is so of every zone and every list of zones that the walk passes.
use Rattle.std.proofs.Common.{◌≡◌, ℕ, Bool, ◌||◌, ◌+◌, List, [], ◌∷◌, ◌++◌, Some, None, is_some, length, codes, Ok, refl, rules, arith}
use Rattle.std.specs.Prelude.{IfOk}
use Rattle.std.specs.List.{All}
use Rattle.std.proofs.lemmas.List.Elements.{All-push}
use Rattle.toml.specs.Data.{Data, Items, as_table}
use Rattle.relay_settings.specs.declared.types.ZoneSettings.{ZoneSettings}
use Rattle.relay_settings.specs.declared.types.ZonePart.{ZonePart}
use Rattle.relay_settings.specs.declared.types.Dir.{Dir}
use Rattle.settings_read.specs.declared.version.Version.{Version}
use Rattle.settings_read.specs.declared.version.Version.TheVariants.{One, Two}
use Rattle.settings_read.specs.Walk.{Answer, ◌>>=◌, Place, path, found, holds, there, or_default, optional_table, table_at, numbered, each}
use Rattle.settings_read.specs.ZoneKeys.{zone_of}
use Rattle.settings_read.specs.ZoneTableV1.{zone_v1_at}
use Rattle.settings_read.specs.ZoneTableV2.{part_at, zone_v2_at}
use Rattle.settings_read.specs.ZoneList.{zone_at, zone_after, zones_of, zones_at}
use Rattle.settings_read.specs.SettingsLaws.{HasEqualParts, HasAPart}
use Rattle.settings_read.proofs.Chains.{then_ok, at_ok, still_ok, held, each_ok}

both : (part : ZonePart) (dir : Dir) (trip swing load : Bool) → HasEqualParts (zone_of (Some part) (Some part) dir trip swing load)
both part dir trip swing load = record { part = part; to_ground = refl; to_phase = refl }

pub zone_v1-equal : (here : Place) → IfOk (zone_v1_at here) HasEqualParts
unfolding zone_v1_at
zone_v1-equal here = search (rules, then_ok, both)

zone_v1-part : (here : Place) → IfOk (zone_v1_at here) HasAPart
unfolding zone_v1_at
zone_v1-part here = search (rules, then_ok)

-- a table that may be missing is there where its key is
optional-there : {A : Type 0} (walk : Place → Answer A) (here : Place) (key : List ℕ) → IfOk (optional_table walk here key) (λ o. is_some o ≡ is_some (found here key))
unfolding optional_table
optional-there walk here key =
    elim (found here key) as (λ d. IfOk (or_default None d (λ x. table_at walk here key x >>= λ y. Ok (Some y))) (λ o. is_some o ≡ is_some d)) [
      | None ↦ refl
      | Some d ↦ then_ok (table_at walk here key d) (λ y. Ok (Some y)) (λ o. is_some o ≡ is_some (Some d)) (λ y is. refl)
    ]

module _ (here : Place) (dir : Dir) (trip swing load : Bool) where
  abbrev has : List ℕ → Bool
  has key = is_some (found here key)

  parts : IfOk (holds (has (codes "ground") || has (codes "phase")) 4 (path here (codes "ground")) >>= λ _.
      optional_table part_at here (codes "ground") >>= λ g. optional_table part_at here (codes "phase") >>= λ p. Ok (zone_of g p dir trip swing load)) HasAPart
  parts =
      then_ok (holds (has (codes "ground") || has (codes "phase")) 4 (path here (codes "ground")))
      (λ _. optional_table part_at here (codes "ground") >>= λ g. optional_table part_at here (codes "phase") >>= λ p. Ok (zone_of g p dir trip swing load)) HasAPart
      (λ u some. then_ok (optional_table part_at here (codes "ground")) (λ g. optional_table part_at here (codes "phase") >>= λ p. Ok (zone_of g p dir trip swing load)) HasAPart
      (λ g is_g. then_ok (optional_table part_at here (codes "phase")) (λ p. Ok (zone_of g p dir trip swing load)) HasAPart
      (λ p is_p.
      let to_ground = at_ok (λ o. is_some o ≡ has (codes "ground")) _ g (optional-there part_at here (codes "ground")) is_g in
      let to_phase = at_ok (λ o. is_some o ≡ has (codes "phase")) _ p (optional-there part_at here (codes "phase")) is_p in
      rw (to_ground, to_phase) (held _ 4 (path here (codes "ground")) u some))))

zone_v2-part : (here : Place) → IfOk (zone_v2_at here) HasAPart
unfolding zone_v2_at
zone_v2-part here = search (rules, then_ok, parts)

pub zone-part : (version : Version) (here : Place) → IfOk (zone_at version here) HasAPart
zone-part One here = zone_v1-part here
zone-part Two here = zone_v2-part here

module _ (P : ZoneSettings → Type 0) (version : Version) (zone : (here : Place) → IfOk (zone_at version here) P) where
  next : (line : Place) (done : List ZoneSettings) (d : Data) → All P done → IfOk (zone_after version line done d) (λ x. All P (done ++ x ∷ []))
  unfolding zone_after
  next line done d good =
      then_ok (there (as_table d) 5 (path line (codes "zone"))) (λ ms. zone_at version (numbered line (codes "zone") (length done + 1) ms)) (λ x. All P (done ++ x ∷ []))
      (λ ms is. still_ok P (λ x. All P (done ++ x ∷ [])) (zone_at version (numbered line (codes "zone") (length done + 1) ms)) (λ x one. All-push P done x good one) (zone (numbered line (codes "zone") (length done + 1) ms)))

  none : All P []
  none k d lt = let no : ⊥ = omega arith in absurd no

  listed : (line : Place) (items : Items) → IfOk (each (zone_after version line) [] items) (All P)
  listed line items = each_ok (zone_after version line) (All P) (next line) [] items none

  zones : (line : Place) (d : Data) → IfOk (zones_of version line d) (All P)
  unfolding zones_of
  zones line d = search (rules, then_ok, listed)

  pub zones-each : (line : Place) → IfOk (zones_at version line) (All P)
  unfolding zones_at
  zones-each line =
      elim (found line (codes "zone")) as (λ d. IfOk (or_default [] d (zones_of version line)) (All P)) [ None ↦ none | Some d ↦ zones line d ]
