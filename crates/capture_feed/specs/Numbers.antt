-- Numbers in a capture's bytes.
use Rattle.std.specs.Prelude.{ℕ, Bool, true, false, List, take, drop}
use Rattle.byteorder.specs.Endian.{little_number, big_number}

-- the number that these bytes spell: true is highest byte first
abbrev pub number : Bool → ℕ → List ℕ → ℕ
number true size bytes = big_number size bytes
number false size bytes = little_number size bytes

-- the number in so many bytes at this place
abbrev pub number_at : Bool → ℕ → ℕ → List ℕ → ℕ
number_at is_big at size bytes = number is_big size (take size (drop at bytes))
