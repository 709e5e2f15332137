-- What a head says of the bytes in which it stands.
use Rattle.std.specs.Prelude.{◌≡◌, ℕ, List, slice_range, Option, Some, None, Result, Ok, Err}
use Rattle.ber_fields.specs.declared.read.BerHead.{BerHead}
use Rattle.ber_fields.specs.Element.{Element, element}

-- the head's tag, and the bytes from its start to its end
abbrev pub element_of : List ℕ → BerHead → Element
element_of bytes head = element head.tag (slice_range bytes head.start head.end)

-- What was returned, seen by view, is what reading gives.
abbrev pub Gives : {X E Y : Type 0} → (X → Y) → Result X E → Option Y → Type 0
Gives view (Ok x) read = read ≡ Some (view x)
Gives view (Err e) read = read ≡ None
