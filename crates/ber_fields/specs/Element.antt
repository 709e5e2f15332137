-- An element of the basic encoding rules (ITU-T X.690) over whole lists of bytes: the grammar, and reading it from the front.
use Rattle.std.specs.Prelude.{◌≡◌, ◌≢◌, ℕ, ◌+◌, ◌-◌, ◌%◌, ◌<◌, ◌≤◌, ◌⊎◌, ◌==◌, ◌&&◌, nat_lt, nat_le, if◌then◌else◌, List, [], ◌∷◌, ◌++◌, length, take, drop, Option, Some, None}
use Rattle.byteorder.specs.Endian.{big_number}

-- what an element says, however its length is spelled
pub record Element : Type 0 where
  pub tag : ℕ
  pub contents : List ℕ

abbrev pub element : ℕ → List ℕ → Element
element tag contents = record { tag = tag; contents = contents }

-- ---- the grammar

-- The bytes spell the length n: n itself below 128, or 128 + k and then k bytes that make n, with k from 1 to 4.
abbrev pub IsLength : List ℕ → ℕ → Type 0
IsLength [] n = ⊥
IsLength (b ∷ digits) n =
    ((b < 128) × (digits ≡ []) × (n ≡ b))
    ⊎ ((0 < length digits) × (length digits ≤ 4) × (b ≡ 128 + length digits) × (n ≡ big_number (length digits) digits))

-- The bytes are the element: a tag whose five low bits aren't all set, a spelling of a length, and that many contents.
pub record Spells (bytes : List ℕ) (e : Element) : Type 0 where
  pub tag : e.tag % 32 ≢ 31
  pub spelling : List ℕ
  pub is_length : IsLength spelling (length e.contents)
  pub whole : bytes ≡ e.tag ∷ (spelling ++ e.contents)

-- A front of the bytes is the element, and the rest stands behind it.
pub record Fronts (bytes : List ℕ) (e : Element) (rest : List ℕ) : Type 0 where
  pub front : List ℕ
  pub parts : bytes ≡ front ++ rest
  pub spells : Spells front e

-- ---- reading from the front

infixl 10 ◌>>=◌
abbrev pub ◌>>=◌ : {A B : Type 0} → Option A → (A → Option B) → Option B
(Some x) >>= f = f x
None >>= f = None

-- how many bytes at the front spell a length, and the length
abbrev pub length_at : List ℕ → Option (ℕ × ℕ)
length_at [] = None
length_at (b ∷ bytes) =
    if nat_lt b 128 then Some (1, b)
    else if nat_lt 128 b && (nat_le b 132 && nat_le (b - 128) (length bytes)) then Some (b - 127, big_number (b - 128) bytes)
    else None

-- the element at the front, and the bytes behind it
unfoldable pub element_at : List ℕ → Option (Element × List ℕ)
element_at [] = None
element_at (tag ∷ bytes) =
    if tag % 32 == 31 then None
    else do
      spelled ← length_at bytes
      if nat_le spelled.1 (length bytes - spelled.0)
          then Some (element tag (take spelled.1 (drop spelled.0 bytes)), drop (spelled.0 + spelled.1) bytes)
          else None
