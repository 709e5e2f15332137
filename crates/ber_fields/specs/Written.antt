-- Elements as they are written (ITU-T X.690): lengths and numbers in their shortest spellings.
use Rattle.std.specs.Prelude.{ℕ, ◌+◌, ◌^◌, ◌≤◌, Bool, nat_lt, if◌then◌else◌, List, [], ◌∷◌, ◌++◌, length}
use Rattle.byteorder.specs.Endian.{big_bytes}

-- the shortest spelling of a length below 2 ^ 16
abbrev pub length_text : ℕ → List ℕ
length_text n = if nat_lt n 128 then n ∷ [] else if nat_lt n 256 then 0x81 ∷ n ∷ [] else 0x82 ∷ big_bytes 2 n

-- a tag, and the length of the contents
abbrev pub head_text : ℕ → ℕ → List ℕ
head_text tag n = tag ∷ length_text n

-- the element with this tag and these contents
abbrev pub field : ℕ → List ℕ → List ℕ
field tag contents = head_text tag (length contents) ++ contents

-- how many bytes a number below 2 ^ 32 has in two's complement, where the top bit of the first is the sign
abbrev pub signed_size : ℕ → ℕ
signed_size n = if nat_lt n (2 ^ 7) then 1 else if nat_lt n (2 ^ 15) then 2 else if nat_lt n (2 ^ 23) then 3 else if nat_lt n (2 ^ 31) then 4 else 5

-- the contents of an integer
abbrev pub shortest : ℕ → List ℕ
shortest n = big_bytes (signed_size n) n

-- the contents of a truth value
abbrev pub truth : Bool → List ℕ
truth b = if b then 1 ∷ [] else 0 ∷ []

-- The text can be appended to what was written: a frame has room for 1024 bytes.
abbrev pub Fits : List ℕ → List ℕ → Type 0
Fits out text = length out + length text ≤ 1024
