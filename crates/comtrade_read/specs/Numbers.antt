-- Numbers with just so many digits, and lines with their ends.
use Rattle.std.specs.Prelude.{ℕ, zero, suc, ◌+◌, ◌/◌, ◌%◌, List, [], ◌∷◌, ◌++◌, map}

-- so many decimal digits of a number
abbrev pub fixed : ℕ → ℕ → List ℕ
fixed zero n = []
fixed (suc k) n = fixed k (n / 10) ++ (48 + n % 10) ∷ []

-- carriage return and line feed
abbrev pub line_end : List ℕ
line_end = 13 ∷ 10 ∷ []

-- these lines, each with its end
abbrev pub with_ends : List (List ℕ) → List (List ℕ)
with_ends lines = map (λ line. line ++ line_end) lines
