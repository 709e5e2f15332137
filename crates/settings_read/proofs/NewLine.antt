-- A line at its place, where its keys are known: the tests for repeated texts.
use Rattle.std.proofs.Common.{◌≡◌, ℕ, Bool, true, false, not, List, codes, Ok, Err, sym, ◌∙◌}
use Rattle.std.specs.Str.{bytes_eq}
use Rattle.std.specs.List.{list_any}
use Rattle.relay_settings.specs.declared.types.LineSettings.{LineSettings}
use Rattle.relay_settings.specs.Settings.{PlainLine, plain_line, plain_lines}
use Rattle.settings_read.specs.Walk.{◌>>=◌, Place, refused, path, holds}
use Rattle.settings_read.specs.LineTable.{line_at}
use Rattle.settings_read.specs.LineList.{new_line_at}
use Rattle.settings_read.specs.declared.version.Version.{Version}
use Rattle.settings_read.proofs.MemberKeys.{list_any-map}

module _ (version : Version) (here : Place) (done : List LineSettings) (line : PlainLine) (is : Ok line ≡ line_at version here) where
  abbrev has : (LineSettings → List ℕ) → List ℕ → Bool
  has key text = list_any (λ l. bytes_eq (key l) text) done

  abbrev has_name : Bool
  has_name = has (λ l. l.name.items) line.name

  abbrev has_sv_id : Bool
  has_sv_id = has (λ l. l.sv_id.items) line.sv_id

  abbrev has_gocb_ref : Bool
  has_gocb_ref = has (λ l. l.goose.gocb_ref.items) line.goose.gocb_ref

  tests : new_line_at version here (plain_lines done)
      ≡ (holds (not has_name) 9 (path here (codes "name")) >>= λ _. holds (not has_sv_id) 9 (path here (codes "sv_id")) >>= λ _. holds (not has_gocb_ref) 9 (path here (codes "goose.gocb_ref")) >>= λ _. Ok line)
  unfolding new_line_at
  tests = rw (← is, list_any-map (λ l. bytes_eq l.name line.name) plain_line done, list_any-map (λ l. bytes_eq l.sv_id line.sv_id) plain_line done, list_any-map (λ l. bytes_eq l.goose.gocb_ref line.goose.gocb_ref) plain_line done)

  pub new_line_at-name : true ≡ has_name → Err (refused 9 (path here (codes "name"))) ≡ new_line_at version here (plain_lines done)
  new_line_at-name name = sym (tests ∙ rw (← name))

  pub new_line_at-sv_id : false ≡ has_name → true ≡ has_sv_id → Err (refused 9 (path here (codes "sv_id"))) ≡ new_line_at version here (plain_lines done)
  new_line_at-sv_id name id = sym (tests ∙ rw (← name, ← id))

  pub new_line_at-gocb_ref : false ≡ has_name → false ≡ has_sv_id → true ≡ has_gocb_ref → Err (refused 9 (path here (codes "goose.gocb_ref"))) ≡ new_line_at version here (plain_lines done)
  new_line_at-gocb_ref name id ref = sym (tests ∙ rw (← name, ← id, ← ref))

  pub new_line_at-new : false ≡ has_name → false ≡ has_sv_id → false ≡ has_gocb_ref → Ok line ≡ new_line_at version here (plain_lines done)
  new_line_at-new name id ref = sym (tests ∙ rw (← name, ← id, ← ref))
