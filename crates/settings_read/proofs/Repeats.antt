-- Lines whose texts differ, where one more comes that has none of them.
use Rattle.std.proofs.Common.{◌≡◌, ℕ, false, List, [], ◌∷◌, ◌++◌, map, refl, ◌∙◌, arith}
use Rattle.std.proofs.lemmas.Cmp.{nat_list_eq_equiv}
use Rattle.std.proofs.lemmas.List.{map_push}
use Rattle.std.proofs.lemmas.List.Elements.{All-push}
use Rattle.std.proofs.lemmas.Map.Keys.{IsDistinct-push}
use Rattle.std.specs.Str.{bytes_eq}
use Rattle.std.specs.List.{list_any, IsDistinct}
use Rattle.relay_settings.specs.declared.types.LineSettings.{LineSettings}
use Rattle.relay_settings.specs.Ranges.{IsLine}
use Rattle.settings_read.specs.Parts.{IsNew, AreLines}

-- a text that no line has, the other way round
any_turned : (key : LineSettings → List ℕ) (x : List ℕ) (done : List LineSettings)
    → list_any (bytes_eq x) (map key done) ≡ list_any (λ d. bytes_eq (key d) x) done
any_turned key x [] = refl
any_turned key x (d ∷ ds) = rw (nat_list_eq_equiv.symm x (key d), any_turned key x ds)

distinct_with : (key : LineSettings → List ℕ) (done : List LineSettings) (l : LineSettings) → IsDistinct bytes_eq (map key done)
    → list_any (λ d. bytes_eq (key d) (key l)) done ≡ false → IsDistinct bytes_eq (map key (done ++ l ∷ []))
distinct_with key done l distinct new =
    rw (map_push key done l) (IsDistinct-push nat_list_eq_equiv (map key done) (key l) distinct (any_turned key (key l) done ∙ new))

pub AreLines-nil : AreLines []
unfolding IsDistinct
AreLines-nil = record { each = λ k d lt. let no : ⊥ = omega arith in absurd no; names = tt; sv_ids = tt; gocb_refs = tt }

pub AreLines-push : (done : List LineSettings) (l : LineSettings) → AreLines done → IsLine l → IsNew done l → AreLines (done ++ l ∷ [])
AreLines-push done l so_far line new = record {
  each = All-push IsLine done l so_far.each line;
  names = distinct_with (λ d. d.name.items) done l so_far.names new.name;
  sv_ids = distinct_with (λ d. d.sv_id.items) done l so_far.sv_ids new.sv_id;
  gocb_refs = distinct_with (λ d. d.goose.gocb_ref.items) done l so_far.gocb_refs new.gocb_ref;
}
