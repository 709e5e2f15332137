-- The ASDUs of a sequence, which holds exactly so many, or the first layer that fails.
use Rattle.std.specs.Prelude.{ℕ, List, Result}
use Rattle.sv_frame.specs.declared.Reason.{Reason}
use Rattle.sv_frame.specs.declared.Reason.TheVariants as reasons
use Rattle.sv_frame.specs.Asdu.{PlainAsdu, asdus_of}
use Rattle.sv_frame.specs.Pdu.{Parts, sequence_of, texts_of}
use Rattle.sv_frame.specs.Frame.{◌>>=◌, or_bad}

abbrev pub asdus_in_sequence : ℕ → List ℕ → Result (List PlainAsdu) Reason
asdus_in_sequence count bytes = do
  texts ← or_bad reasons.Count (sequence_of count bytes)
  or_bad reasons.Asdu (asdus_of texts)

-- the same of the number and the sequence that a PDU holds
abbrev pub asdus_in_parts : Parts → Result (List PlainAsdu) Reason
asdus_in_parts parts = do
  texts ← or_bad reasons.Count (texts_of parts)
  or_bad reasons.Asdu (asdus_of texts)
