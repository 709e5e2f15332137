-- What a reader keeps of an ASDU's fields while they come, one after the other.
use Rattle.std.specs.Prelude.{ℕ, ◌+◌, ◌==◌, nat_le, if◌then◌else◌, List, length, Option, Some, None}
use Rattle.byteorder.specs.Endian.{big_number}
use Rattle.ber_fields.specs.Element.{Element, ◌>>=◌}
use Rattle.sv_frame.specs.Asdu.{PlainAsdu}
use Rattle.sv_frame.specs.Tags as tags

-- the least known tag that may still come, and the contents of the required fields that came
pub record Gathered : Type 0 where
  pub low : ℕ
  pub sv_id : Option (List ℕ)
  pub counter : Option (List ℕ)
  pub conf_rev : Option (List ℕ)
  pub synch : Option (List ℕ)
  pub samples : Option (List ℕ)

abbrev pub nothing_gathered : Gathered
nothing_gathered =
    record { low = tags.first_field; sv_id = None; counter = None; conf_rev = None; synch = None; samples = None }

-- the contents of this tag, with one more field
abbrev pub newer : ℕ → Element → Option (List ℕ) → Option (List ℕ)
newer tag e before = if e.tag == tag then Some e.contents else before

-- one known field more
abbrev pub joined : Element → Gathered → Gathered
joined e g = record {
  low = e.tag + 1;
  sv_id = newer tags.sv_id e g.sv_id;
  counter = newer tags.counter e g.counter;
  conf_rev = newer tags.conf_rev e g.conf_rev;
  synch = newer tags.synch e g.synch;
  samples = newer tags.samples e g.samples;
}

-- One field more: a known one has to be above those before, and others are passed over.
abbrev pub with_field : Element → Gathered → Option Gathered
with_field e g =
    if nat_le e.tag tags.last_field then (if nat_le g.low e.tag then Some (joined e g) else None)
    else Some g

-- contents of this length
abbrev pub of_size : ℕ → Option (List ℕ) → Option (List ℕ)
of_size size contents = do
  bytes ← contents
  if length bytes == size then Some bytes else None

-- what these contents say
abbrev pub asdu_with : Option (List ℕ) → Option (List ℕ) → Option (List ℕ) → Option (List ℕ) → Option (List ℕ) → Option PlainAsdu
asdu_with named counted revised timed sampled = do
  sv_id ← named
  counter ← of_size 2 counted
  conf_rev ← of_size 4 revised
  synch ← of_size 1 timed
  samples ← sampled
  Some (record { sv_id = sv_id; counter = big_number 2 counter; conf_rev = big_number 4 conf_rev; synch = big_number 1 synch; samples = samples })

-- what was gathered says this, where nothing follows
abbrev pub asdu_by : Gathered → Option PlainAsdu
asdu_by g = asdu_with g.sv_id g.counter g.conf_rev g.synch g.samples
