-- The settings of the two lines are in their ranges, and differ where they must.
use Rattle.std.proofs.Common.{◌≡◌, ℕ, List, [], ◌∷◌, false, codes, refl, ap, lit≤, inl, rules}
use Rattle.std.specs.List.{IsDistinct}
use Rattle.std.specs.Str.{bytes_eq}
use Rattle.std.proofs.lemmas.List.Elements.{All-cons}
use Rattle.relay_settings.specs.Ranges.{IsText, IsLine, IsCommon, InRange}
use Rattle.relay_settings.specs.Settings.{PlainLine, plain_line}
use Rattle.relay_settings.specs.declared.types.LineSettings.{LineSettings}
use Rattle.relay_settings.specs.declared.types.Settings.{Settings}
use Rattle.drill.specs.declared.slot.Line.{Line}
use Rattle.drill.specs.declared.slot.Line.TheVariants.{First, Second}
use Rattle.drill.specs.Slots.{sv_id_of}
use Rattle.drill.specs.DrillSettings.{drill_common, drill_goose, name_of, drill_line, gocb_ref_of}

pub name_text : (line : Line) → IsText 0x21 16 (name_of line)
unfolding name_of
name_text First = (lit≤ tt, lit≤ tt, refl)
name_text Second = (lit≤ tt, lit≤ tt, refl)

pub name_not_frame : (line : Line) → bytes_eq (name_of line) (codes "frame") ≡ false
unfolding name_of
name_not_frame First = refl
name_not_frame Second = refl

pub sv_id_text : (line : Line) → IsText 0x20 129 (sv_id_of line)
unfolding sv_id_of
sv_id_text First = (lit≤ tt, lit≤ tt, refl)
sv_id_text Second = (lit≤ tt, lit≤ tt, refl)

-- the texts of the two lines differ
distinct : (x y : List ℕ) → bytes_eq x y ≡ false → IsDistinct bytes_eq (x ∷ y ∷ [])
unfolding IsDistinct
distinct x y differ = ((differ, tt), ((tt), tt))

common_in_range : IsCommon drill_common
common_in_range = record { cycle = inl (refl, refl, refl); start = lit≤ tt; heartbeat_ms = (lit≤ tt, lit≤ tt) }

pub both_in_range : (s : Settings) (first second : LineSettings) →
    s.common ≡ drill_common → s.lines.items ≡ first ∷ second ∷ [] → IsLine first → IsLine second →
    plain_line first ≡ drill_line First → plain_line second ≡ drill_line Second → InRange s
unfolding drill_goose drill_line name_of sv_id_of
both_in_range s first second is_common is_both good good' is_first is_second = record {
  common = rw is_common common_in_range;
  some = rw is_both (lit≤ tt);
  few = rw is_both (lit≤ tt);
  lines = rw is_both (All-cons IsLine first (second ∷ []) good (All-cons IsLine second [] good' (search rules)));
  names = rw (is_both, ap (λ (l : PlainLine). l.name) is_first, ap (λ (l : PlainLine). l.name) is_second) (distinct (codes "L1") (codes "L2") refl);
  sv_ids = rw (is_both, ap (λ (l : PlainLine). l.sv_id) is_first, ap (λ (l : PlainLine). l.sv_id) is_second) (distinct (codes "MU01") (codes "MU02") refl);
  gocb_refs =
      rw (is_both, ap (λ (l : PlainLine). l.goose.gocb_ref) is_first, ap (λ (l : PlainLine). l.goose.gocb_ref) is_second)
      (distinct (gocb_ref_of First) (gocb_ref_of Second) refl);
}
