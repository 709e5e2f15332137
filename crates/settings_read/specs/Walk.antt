-- A walk over a tree of settings: it goes on where a test passes, and the first test that fails gives the
-- answer. Nothing here is of the relay: the words say how a key of a table is tested, and in which order.
use Rattle.std.specs.Prelude.{ℕ, ℤ, pos, suc, codes, decimal, unsigned_abs, int_le, nat_le, Bool, true, ◌&&◌, ◌++◌, if◌then◌else◌, List, [], ◌∷◌, length, Option, Some, None, is_some, Result, Ok, Err}
use Rattle.std.specs.Str.{bytes_eq}
use Rattle.std.specs.List.{list_any, list_all}
use Rattle.toml.specs.Data.{Data, Members, no_members, member, Items, no_items, item, get_member, as_integer, as_str, as_bool, as_table}

-- why a file is refused, and the path of the key where
pub record Refusal : Type 0 where
  pub number : ℕ
  pub key : List ℕ

abbrev pub Answer : Type 0 → Type 0
Answer A = Result A Refusal

infixl 10 ◌>>=◌
abbrev pub ◌>>=◌ : {A B : Type 0} → Answer A → (A → Answer B) → Answer B
(Ok x) >>= f = f x
(Err e) >>= f = Err e

abbrev pub refused : ℕ → List ℕ → Refusal
refused number key = record { number = number; key = key }

-- a value where the test holds, else this refusal
abbrev pub when : {A : Type 0} → Bool → A → ℕ → List ℕ → Answer A
when test x number key = if test then Ok x else Err (refused number key)

-- nothing where the test holds, else this refusal
abbrev pub holds : Bool → ℕ → List ℕ → Answer (Unit {0})
holds test number key = if test then Ok (tt {0}) else Err (refused number key)

-- the value where there is one, else this refusal
abbrev pub there : {A : Type 0} → Option A → ℕ → List ℕ → Answer A
there (Some x) number key = Ok x
there None number key = Err (refused number key)

-- A table of the file: its own path, the path in front of its keys, and its members.
pub record Place : Type 0 where
  pub name : List ℕ
  pub prefix : List ℕ
  pub table : Members

-- the path of a key of the table
abbrev pub path : Place → List ℕ → List ℕ
path here key = here.prefix ++ key

-- what the table has at a key
abbrev pub found : Place → List ℕ → Option Data
found here key = get_member key here.table

-- each key of the members is among these
abbrev pub keys_among : List (List ℕ) → Members → Bool
keys_among keys no_members = true
keys_among keys (member key d ms) = list_any (bytes_eq key) keys && keys_among keys ms

-- no key is unknown
unfoldable pub only : Place → List (List ℕ) → Answer (Unit {0})
only here keys = holds (keys_among keys here.table) 3 here.name

-- a value that is tested by its kind: what it is, or the refusal that has the path
abbrev pub Kind : Type 0 → Type 0
Kind A = List ℕ → Data → Answer A

-- a key that must be there
unfoldable pub required : {A : Type 0} → Kind A → Place → List ℕ → Answer A
required kind here key = do
  d ← there (found here key) 4 (path here key)
  kind (path here key) d

-- a key that may be missing
abbrev pub or_default : {A : Type 0} → A → Option Data → (Data → Answer A) → Answer A
or_default x None test = Ok x
or_default x (Some d) test = test d

unfoldable pub optional : {A : Type 0} → Kind A → A → Place → List ℕ → Answer A
optional kind x here key = or_default x (found here key) (kind (path here key))

-- a whole number from low to high
unfoldable pub whole : ℤ → ℤ → Kind ℤ
whole low high at d = do
  z ← there (as_integer d) 5 at
  when (int_le low z && int_le z high) z 6 at

-- the same without a sign
unfoldable pub count : ℕ → ℕ → Kind ℕ
count low high at d = do
  z ← whole (pos low) (pos high) at d
  Ok (unsigned_abs z)

unfoldable pub boolean : Kind Bool
boolean at d = there (as_bool d) 5 at

-- a text of 1 to most bytes, each from low to 0x7E
unfoldable pub text : ℕ → ℕ → Kind (List ℕ)
text low most at d = do
  s ← there (as_str d) 5 at
  when ((nat_le 1 (length s) && nat_le (length s) most) && list_all (λ b. nat_le low b && nat_le b 126) s) s 12 at

-- a table at a key of a table, and a numbered table of a list at a key
abbrev pub at_path : List ℕ → Members → Place
at_path name ms = record { name = name; prefix = name ++ codes "."; table = ms }

abbrev pub below : Place → List ℕ → Members → Place
below here key ms = at_path (path here key) ms

abbrev pub numbered : Place → List ℕ → ℕ → Members → Place
numbered here key n ms = at_path (path here key ++ codes "." ++ decimal n) ms

-- what a table that stands at a key is
abbrev pub table_at : {A : Type 0} → (Place → Answer A) → Place → List ℕ → Data → Answer A
table_at walk here key d = do
  ms ← there (as_table d) 5 (path here key)
  walk (below here key ms)

-- a table that must be there
unfoldable pub required_table : {A : Type 0} → (Place → Answer A) → Place → List ℕ → Answer A
required_table walk here key = do
  d ← there (found here key) 4 (path here key)
  table_at walk here key d

-- a table that may be missing
unfoldable pub optional_table : {A : Type 0} → (Place → Answer A) → Place → List ℕ → Answer (Option A)
optional_table walk here key = or_default None (found here key) (λ d. do
  x ← table_at walk here key d
  Ok (Some x))

-- a text of visible ASCII, of 1 to most bytes, that has a meaning
unfoldable pub word : {A : Type 0} → ℕ → (List ℕ → Option A) → Place → List ℕ → Answer A
word most meaning here key = do
  s ← required (text 0x21 most) here key
  there (meaning s) 6 (path here key)

-- each item of a list is a table
abbrev pub are_tables : Items → Bool
are_tables no_items = true
are_tables (item d ds) = is_some (as_table d) && are_tables ds

abbrev pub item_count : Items → ℕ
item_count no_items = 0
item_count (item d ds) = suc (item_count ds)

-- what each item of a list is, in order, where those before it are known
unfoldable pub each : {A : Type 0} → (List A → Data → Answer A) → List A → Items → Answer (List A)
each one done no_items = Ok done
each one done (item d ds) = do
  x ← one done d
  each one (done ++ x ∷ []) ds
