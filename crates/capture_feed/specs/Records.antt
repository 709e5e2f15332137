-- The records that a capture holds, and how it stops: what every format has.
use Rattle.std.specs.Prelude.{ℕ, zero, suc, ◌+◌, nat_le, if◌then◌else◌, List, [], ◌∷◌, length, drop, Option, None, Some}

-- why no further record comes: the file ends behind a whole piece of it, a piece that tells this length is damaged, the file
-- ends within a piece, or the pieces so far make as many bytes as were allowed
pub data Stop : Type 0 where
  Whole : Stop
  Damaged : ℕ → Stop
  Cut : Stop
  TooLong : Stop

-- the captured bytes of records one after another, and the stop behind them
pub record Records : Type 0 where
  pub bodies : List (List ℕ)
  pub stop : Stop

-- one record before these
abbrev pub add : List ℕ → Records → Records
add first records = record records { bodies = first ∷ records.bodies }

-- no record
abbrev pub stopped : Stop → Records
stopped stop = record { bodies = []; stop = stop }

-- what stands first in the rest of a file: a stop, or a piece of so many bytes, with the captured bytes of the record in it, if
-- there is one, and with what the bytes behind it are read by
pub data First (S : Type 0) : Type 0 where
  Ends : Stop → First S
  Holds : ℕ → Option (List ℕ) → S → First S

-- the record of a piece, if there is one, before these
abbrev pub put : Option (List ℕ) → Records → Records
put None records = records
put (Some body) records = add body records

-- the stop, or the piece's record before those behind it
abbrev pub go_on : {S : Type 0} → First S → (ℕ → S → Records) → Records
go_on (Ends stop) behind = stopped stop
go_on (Holds size body next) behind = put body (behind size next)

-- the first pieces of the rest, `most` of them and one more at most
abbrev pub cut : {S : Type 0} → (S → List ℕ → First S) → ℕ → ℕ → S → ℕ → List ℕ → Records
cut first limit zero by taken rest = if nat_le limit taken then stopped TooLong else go_on (first by rest) (λ size next. stopped Cut)
cut first limit (suc most) by taken rest =
    if nat_le limit taken then stopped TooLong
    else go_on (first by rest) (λ size next. cut first limit most next (taken + size) (drop size rest))

-- the records of the rest of a file, which comes behind `taken` bytes and is read by this: no piece begins at `limit` or later. Each
-- piece has a byte at least, so no more stand there than there are bytes
unfoldable pub records_from : {S : Type 0} → (S → List ℕ → First S) → ℕ → S → ℕ → List ℕ → Records
records_from first limit by taken rest = cut first limit (length rest) by taken rest
