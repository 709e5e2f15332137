-- The reader's answer as plain data, and its cost.
use Rattle.std.specs.Prelude.{ℕ, ◌+◌, ◌*◌, List, length, Result, Ok, Err}
use Rattle.sv_frame.specs.declared.SvRead.{SvRead}
use Rattle.sv_frame.specs.declared.SvRead.TheVariants.{Other, Bad, Pdu}
use Rattle.sv_frame.specs.declared.SvKind.{SvKind}
use Rattle.sv_frame.specs.declared.SvKind.TheVariants as kinds
use Rattle.sv_frame.specs.declared.Opened.{Opened}
use Rattle.sv_frame.specs.declared.Opened.TheVariants as opened
use Rattle.sv_frame.specs.declared.lent.Asdu.{Asdu}
use Rattle.sv_frame.specs.declared.lent.AsduSequence.{AsduSequence}
use Rattle.sv_frame.specs.Asdu.{plain_asdus}
use Rattle.sv_frame.specs.Frame.{Sv, other, bad, pdu, answer}
use Rattle.sv_frame.specs.Sequence.{asdus_in_sequence}

-- the answer with the value seen by view
abbrev pub seen : {X Y E : Type 0} → (X → Y) → Result X E → Result Y E
seen view (Ok x) = Ok (view x)
seen view (Err e) = Err e

abbrev pub sv_view : SvRead → Sv
sv_view Other = other
sv_view (Bad reason) = bad reason
sv_view (Pdu asdus) = pdu (plain_asdus asdus.items)

abbrev pub kind_view : SvKind → List Asdu → Sv
kind_view kinds.Other asdus = other
kind_view (kinds.Bad reason) asdus = bad reason
kind_view kinds.Pdu asdus = pdu (plain_asdus asdus)

-- what a frame says whose ASDUs these bytes have to hold
abbrev pub sequence_view : AsduSequence → Sv
sequence_view asdus = answer (asdus_in_sequence asdus.count asdus.bytes.now)

abbrev pub opened_view : Opened → Sv
opened_view opened.Other = other
opened_view (opened.Bad reason) = bad reason
opened_view (opened.Asdus asdus) = sequence_view asdus

-- How many heads may be read for an answer: four in front of the ASDUs, one for each of these, and at most sixteen in each.
abbrev pub most_heads : SvRead → ℕ
most_heads Other = 4 + 17 * 16
most_heads (Bad reason) = 4 + 17 * 16
most_heads (Pdu asdus) = 4 + 17 * length asdus.items

abbrev pub most_heads_of : SvKind → List Asdu → ℕ
most_heads_of kinds.Other asdus = 4 + 17 * 16
most_heads_of (kinds.Bad reason) asdus = 4 + 17 * 16
most_heads_of kinds.Pdu asdus = 4 + 17 * length asdus
