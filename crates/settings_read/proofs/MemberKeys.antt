-- The keys of a map beside the members that it stands for.
use Rattle.std.proofs.Common.{◌≡◌, ℕ, suc, length, is_some, ◌||◌, ◌&&◌, Bool, List, [], ◌∷◌, map, string_bytes, Bor, refl, ap}
use Rattle.std.specs.Str.{bytes_eq}
use Rattle.std.specs.List.{list_any, list_all}
use Rattle.std.specs.Map.{keys_of}
use Rattle.toml.specs.Data.{as_table}
use Rattle.toml.specs.View.{view, items_view, members_view}
use Rattle.toml.specs.declared.value.Value.{Value}
use Rattle.settings_read.specs.Walk.{are_tables, item_count}
use Rattle.toml.proofs.Views.{Entry}
use Rattle.settings_read.specs.Walk.{keys_among}

pub list_any-map : {X Y : Type 0} (p : Y → Bool) (f : X → Y) (xs : List X) → list_any p (map f xs) ≡ list_any (λ x. p (f x)) xs
list_any-map p f [] = refl
list_any-map p f (x ∷ xs) = ap (λ b. p (f x) || b) (list_any-map p f xs)

pub keys_among-view : (known : List (Bor (List ℕ))) (es : List Entry)
    → keys_among (map (λ k. k.now) known) (members_view es) ≡ list_all (λ key. list_any (λ k. bytes_eq (string_bytes key) k.now) known) (keys_of es)
keys_among-view known [] = refl
keys_among-view known (e ∷ es) = rw (list_any-map (bytes_eq (string_bytes e.0)) (λ (k : Bor (List ℕ)). k.now) known, keys_among-view known es)

pub are_tables-view : (vs : List Value) → are_tables (items_view vs) ≡ list_all (λ v. is_some (as_table (view v))) vs
are_tables-view [] = refl
are_tables-view (v ∷ vs) = ap (λ b. is_some (as_table (view v)) && b) (are_tables-view vs)

pub item_count-view : (vs : List Value) → item_count (items_view vs) ≡ length vs
item_count-view [] = refl
item_count-view (v ∷ vs) = ap suc (item_count-view vs)
