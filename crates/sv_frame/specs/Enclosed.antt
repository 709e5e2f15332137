-- The elements that a PDU holds, over the bytes of it.
use Rattle.std.specs.Prelude.{ℕ, List, Option}
use Rattle.ber_fields.specs.Element.{◌>>=◌}
use Rattle.sv_frame.specs.Elements.{elements}
use Rattle.sv_frame.specs.Pdu.{Parts, only, parts_of}

-- the contents of the one element of this tag that fills the bytes
abbrev pub only_in : ℕ → List ℕ → Option (List ℕ)
only_in tag bytes = do
  outer ← elements 1 bytes
  only tag outer

-- the number and the sequence, where the bytes are these and maybe a security field
abbrev pub parts_in : List ℕ → Option Parts
parts_in bytes = do
  parts ← elements 3 bytes
  parts_of parts
