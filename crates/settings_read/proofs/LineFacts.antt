-- What is so of every line and every list of lines that the walk passes.
use Rattle.std.proofs.Common.{◌≡◌, ◌≢◌, ℕ, ◌<◌, ◌+◌, Bool, true, false, not, List, [], ◌∷◌, ◌++◌, get_or, length, codes, Ok, rules, arith}
use Rattle.std.specs.Prelude.{IfOk}
use Rattle.std.specs.Str.{bytes_eq}
use Rattle.std.specs.List.{All}
use Rattle.std.proofs.lemmas.Bool.{not-true}
use Rattle.std.proofs.lemmas.Cmp.{nat_list_eq_equiv}
use Rattle.std.proofs.lemmas.List.Elements.{All-push}
use Rattle.std.proofs.lemmas.List.Folds.{list_any_at}
use Rattle.std.proofs.lemmas.List.Quantifiers.{all_pairs_push}
use Rattle.toml.specs.Data.{Data, Items, as_table}
use Rattle.relay_settings.specs.Settings.{PlainLine}
use Rattle.relay_settings.specs.declared.types.ZoneSettings.{ZoneSettings}
use Rattle.settings_read.specs.declared.version.Version.{Version}
use Rattle.settings_read.specs.Walk.{◌>>=◌, Place, path, holds, there, numbered, each}
use Rattle.settings_read.specs.ZoneList.{zone_at, zones_at}
use Rattle.settings_read.specs.LineTable.{line_at}
use Rattle.settings_read.specs.LineList.{is_repeated, new_line_at, line_after, lines_of}
use Rattle.settings_read.specs.SettingsLaws.{LinesDiffer}
use Rattle.settings_read.proofs.Chains.{then_ok, at_ok, held, each_ok}
use Rattle.settings_read.proofs.ZoneFacts.{zones-each}

-- none of the lines before has this text
differs : (key : PlainLine → List ℕ) (done : List PlainLine) (line : PlainLine) → is_repeated key done line ≡ false
    → (k : ℕ) (d : PlainLine) → k < length done → key (get_or done k d) ≢ key line
differs key done line new k d lt same =
    let equal : bytes_eq (key (get_or done k d)) (key line) ≡ true = rw same (nat_list_eq_equiv.refl (key line)) in
    let any : is_repeated key done line ≡ true = list_any_at (λ l. bytes_eq (key l) (key line)) done k d lt equal in
    let no : ⊥ = cc in
    no

-- such a line after lines that differ
pub differ-push : (done : List PlainLine) (line : PlainLine) → LinesDiffer done
    → is_repeated (λ l. l.name) done line ≡ false → is_repeated (λ l. l.sv_id) done line ≡ false → is_repeated (λ l. l.goose.gocb_ref) done line ≡ false
    → LinesDiffer (done ++ line ∷ [])
differ-push done line so_far name sv_id gocb_ref = record {
  names = all_pairs_push (λ a b. a.name ≢ b.name) done line so_far.names (differs (λ l. l.name) done line name);
  sv_ids = all_pairs_push (λ a b. a.sv_id ≢ b.sv_id) done line so_far.sv_ids (differs (λ l. l.sv_id) done line sv_id);
  gocb_refs = all_pairs_push (λ a b. a.goose.gocb_ref ≢ b.goose.gocb_ref) done line so_far.gocb_refs (differs (λ l. l.goose.gocb_ref) done line gocb_ref);
}

pub differ-nil : LinesDiffer []
differ-nil = record {
  names = λ i j d lt few. let no : ⊥ = omega arith in absurd no;
  sv_ids = λ i j d lt few. let no : ⊥ = omega arith in absurd no;
  gocb_refs = λ i j d lt few. let no : ⊥ = omega arith in absurd no;
}

not_held : (test : Bool) (number : ℕ) (key : List ℕ) (u : Unit {0}) → holds (not test) number key ≡ Ok u → test ≡ false
not_held test number key u is = not-true test (held (not test) number key u is)

module _ (version : Version) where
  new_line-differs : (here : Place) (done : List PlainLine) → LinesDiffer done → IfOk (new_line_at version here done) (λ line. LinesDiffer (done ++ line ∷ []))
  unfolding new_line_at
  new_line-differs here done so_far =
      then_ok (line_at version here) (λ line. holds (not (is_repeated (λ l. l.name) done line)) 9 (path here (codes "name")) >>= λ _. holds (not (is_repeated (λ l. l.sv_id) done line)) 9 (path here (codes "sv_id")) >>= λ _. holds (not (is_repeated (λ l. l.goose.gocb_ref) done line)) 9 (path here (codes "goose.gocb_ref")) >>= λ _. Ok line)
      (λ line. LinesDiffer (done ++ line ∷ [])) (λ line is.
      then_ok (holds (not (is_repeated (λ l. l.name) done line)) 9 (path here (codes "name"))) (λ _. holds (not (is_repeated (λ l. l.sv_id) done line)) 9 (path here (codes "sv_id")) >>= λ _. holds (not (is_repeated (λ l. l.goose.gocb_ref) done line)) 9 (path here (codes "goose.gocb_ref")) >>= λ _. Ok line)
      (λ line. LinesDiffer (done ++ line ∷ [])) (λ u name.
      then_ok (holds (not (is_repeated (λ l. l.sv_id) done line)) 9 (path here (codes "sv_id"))) (λ _. holds (not (is_repeated (λ l. l.goose.gocb_ref) done line)) 9 (path here (codes "goose.gocb_ref")) >>= λ _. Ok line)
      (λ line. LinesDiffer (done ++ line ∷ [])) (λ v sv_id.
      then_ok (holds (not (is_repeated (λ l. l.goose.gocb_ref) done line)) 9 (path here (codes "goose.gocb_ref"))) (λ _. Ok line)
      (λ line. LinesDiffer (done ++ line ∷ [])) (λ w gocb_ref.
      differ-push done line so_far (not_held _ 9 _ u name) (not_held _ 9 _ v sv_id) (not_held _ 9 _ w gocb_ref)))))

  module _ (Good : List PlainLine → Type 0) (step : (here : Place) (done : List PlainLine) → Good done → IfOk (new_line_at version here done) (λ line. Good (done ++ line ∷ []))) (nil : Good []) where
    next : (top : Place) (done : List PlainLine) (d : Data) → Good done → IfOk (line_after version top done d) (λ line. Good (done ++ line ∷ []))
    unfolding line_after
    next top done d good =
        then_ok (there (as_table d) 5 (path top (codes "line"))) (λ ms. new_line_at version (numbered top (codes "line") (length done + 1) ms) done) (λ line. Good (done ++ line ∷ []))
        (λ ms is. step (numbered top (codes "line") (length done + 1) ms) done good)

    listed : (top : Place) (items : Items) → IfOk (each (line_after version top) [] items) Good
    listed top items = each_ok (line_after version top) Good (next top) [] items nil

    pub lines-good : (top : Place) → IfOk (lines_of version top) Good
    unfolding lines_of
    lines-good top = search (rules, then_ok, listed)

  pub lines-differ : (top : Place) → IfOk (lines_of version top) LinesDiffer
  lines-differ = lines-good LinesDiffer new_line-differs differ-nil

  module _ (P : ZoneSettings → Type 0) (zone : (here : Place) → IfOk (zone_at version here) P) where
    good : (line : Place) (zones : List ZoneSettings) → zones_at version line ≡ Ok zones → All P zones
    good line zones is = at_ok (All P) (zones_at version line) zones (zones-each P version zone line) is

    line-zones : (here : Place) → IfOk (line_at version here) (λ line. All P line.zones)
    unfolding line_at
    line-zones here = search (rules, then_ok, good)

    good_line : (here : Place) (line : PlainLine) → line_at version here ≡ Ok line → All P line.zones
    good_line here line is = at_ok (λ l. All P l.zones) (line_at version here) line (line-zones here) is

    pushed : (here : Place) (done : List PlainLine) (line : PlainLine) → All (λ l. All P l.zones) done → line_at version here ≡ Ok line → All (λ l. All P l.zones) (done ++ line ∷ [])
    pushed here done line good is = All-push (λ l. All P l.zones) done line good (good_line here line is)

    new_line-zones : (here : Place) (done : List PlainLine) → All (λ l. All P l.zones) done → IfOk (new_line_at version here done) (λ line. All (λ l. All P l.zones) (done ++ line ∷ []))
    unfolding new_line_at
    new_line-zones here done good = search (rules, then_ok, pushed)

    pub lines-zones : (top : Place) → IfOk (lines_of version top) (All (λ l. All P l.zones))
    lines-zones = lines-good (All (λ l. All P l.zones)) new_line-zones (λ k d lt. let no : ⊥ = omega arith in absurd no)
