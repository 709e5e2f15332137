-- The newest items of a sequence, as a list with the oldest of them first.
use Rattle.std.specs.Prelude.{ℕ, ◌-◌, List, length, slice_get, Option, None, nat_lt, if◌then◌else◌}

-- the item i places behind the newest
abbrev pub item_behind : {X : Type 0} → List X → ℕ → Option X
item_behind xs i = if nat_lt i (length xs) then slice_get xs (length xs - i - 1) else None
