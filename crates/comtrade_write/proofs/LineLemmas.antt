-- The lines of a record by their places.
use Rattle.std.proofs.Common.{◌≡◌, ◌∙◌, ℕ, ap, List, ◌++◌, slice_get, Some}
use Rattle.std.specs.Option.{option_map}
use Rattle.std.proofs.lemmas.Option.{slice_get-map}
use Rattle.comtrade_read.specs.Numbers.{line_end, with_ends}

-- a text with its end
pub line-at : (texts : List (List ℕ)) (place : ℕ) (text : List ℕ) → slice_get texts place ≡ Some text →
    slice_get (with_ends texts) place ≡ Some (text ++ line_end)
line-at texts place text e = slice_get-map (λ (t : List ℕ). t ++ line_end) texts place ∙ ap (option_map (λ (t : List ℕ). t ++ line_end)) e
