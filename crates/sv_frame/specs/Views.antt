-- What is lent from a frame, as plain data.
use Rattle.std.specs.Prelude.{List, Result, Ok, Err}
use Rattle.std.specs.Option.{option_map}
use Rattle.sv_frame.specs.declared.Reason.{Reason}
use Rattle.sv_frame.specs.declared.lent.AsduSequence.{AsduSequence}
use Rattle.sv_frame.specs.declared.lent.Parts.{Parts as Lent}
use Rattle.sv_frame.specs.declared.fields.Fields.{Fields}
use Rattle.sv_frame.specs.Pdu.{Parts}
use Rattle.sv_frame.specs.Asdu.{PlainAsdu}
use Rattle.sv_frame.specs.Sequence.{asdus_in_sequence}
use Rattle.sv_frame.specs.Gathering.{Gathered}

abbrev pub plain_parts : Lent → Parts
plain_parts parts = record { count = parts.count.now; sequence = parts.sequence.now }

-- the ASDUs that these bytes hold, or the layer that fails
abbrev pub asdus_by : Result AsduSequence Reason → Result (List PlainAsdu) Reason
asdus_by (Ok asdus) = asdus_in_sequence asdus.count asdus.bytes.now
asdus_by (Err reason) = Err reason

abbrev pub plain_fields : Fields → Gathered
plain_fields fields = record {
  low = fields.low;
  sv_id = option_map (λ x. x.now) fields.sv_id;
  counter = option_map (λ x. x.now) fields.counter;
  conf_rev = option_map (λ x. x.now) fields.conf_rev;
  synch = option_map (λ x. x.now) fields.synch;
  samples = option_map (λ x. x.now) fields.samples;
}
