-- BER elements (ITU-T X.690) one behind the other.
use Rattle.std.specs.Prelude.{◌≡◌, ℕ, zero, suc, List, [], ◌∷◌, Option, Some, None}
use Rattle.ber_fields.specs.Element.{Element, Fronts, ◌>>=◌, element_at}

-- the bytes are these elements, one behind the other
abbrev pub SpellAll : List ℕ → List Element → Type 0
SpellAll bytes [] = bytes ≡ []
SpellAll bytes (e ∷ elements) = (rest : List ℕ) × Fronts bytes e rest × SpellAll rest elements

-- the elements that fill the bytes, where these are at most so many
unfoldable pub elements : ℕ → List ℕ → Option (List Element)
elements most [] = Some []
elements zero (b ∷ bytes) = None
elements (suc most) (b ∷ bytes) = do
  first ← element_at (b ∷ bytes)
  others ← elements most first.1
  Some (first.0 ∷ others)
