-- The last number of an element that keeps two.
use Rattle.std.specs.Prelude.{ℕ, Option, Some, None, max}

-- the larger of two last numbers, and the one where there is but one
abbrev pub larger : Option ℕ → Option ℕ → Option ℕ
larger None other = other
larger (Some one) None = Some one
larger (Some one) (Some other) = Some (max one other)
