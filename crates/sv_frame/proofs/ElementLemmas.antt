-- Reading elements one after the other.
use Rattle.std.proofs.Common.{◌≡◌, ℕ, zero, suc, ◌<◌, List, [], ◌∷◌, length, Some, None, refl, arith}
use Rattle.ber_fields.specs.Element.{Element, ◌>>=◌, element_at}
use Rattle.sv_frame.specs.Elements.{elements}

-- one element further
pub next : (most : ℕ) (bytes : List ℕ) (e : Element) (rest : List ℕ) → 0 < length bytes → element_at bytes ≡ Some (e, rest) → elements (suc most) bytes ≡ (elements most rest >>= λ es. Some (e ∷ es))
unfolding elements
next most [] e rest some h = absurd (omega arith)
next most (b ∷ bytes) e rest some h = rw h refl

-- no element stands there
pub stops : (most : ℕ) (bytes : List ℕ) → 0 < length bytes → element_at bytes ≡ None → elements most bytes ≡ None
unfolding elements
stops most [] some h = absurd (omega arith)
stops zero (b ∷ bytes) some h = refl
stops (suc most) (b ∷ bytes) some h = rw h refl

pub full : (bytes : List ℕ) → 0 < length bytes → elements 0 bytes ≡ None
unfolding elements
full [] some = absurd (omega arith)
full (b ∷ bytes) some = refl

pub empty : (most : ℕ) → elements most [] ≡ Some []
unfolding elements
empty zero = refl
empty (suc most) = refl

-- an element stands in some bytes
pub holds : (bytes : List ℕ) (e : Element) (rest : List ℕ) → element_at bytes ≡ Some (e, rest) → 0 < length bytes
unfolding element_at
holds [] e rest h = absurd cc
holds (b ∷ bytes) e rest h = omega arith
