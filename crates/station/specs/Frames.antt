-- What a captured frame is to a station, as plain data, and how many heads are read of it.
use Rattle.std.specs.Prelude.{ℕ, ◌+◌, ◌*◌, List, length}
use Rattle.sv_frame.specs.Asdu.{PlainAsdu, plain_asdus}
use Rattle.sv_frame.specs.Frame.{Sv, other as other_traffic, bad, pdu as pdu_read}
use Rattle.event_record.specs.declared.event.Event.{Event}
use Rattle.event_record.specs.declared.event.Event.TheVariants as events
use Rattle.station.specs.declared.heard.Heard.{Heard}
use Rattle.station.specs.declared.heard.Heard.TheVariants.{Other, Malformed, Pdu}

pub data PlainHeard : Type 0 where
  other : PlainHeard
  malformed : Event → PlainHeard
  pdu : List PlainAsdu → PlainHeard

-- the frame of this number
abbrev pub heard_as : ℕ → Sv → PlainHeard
heard_as number other_traffic = other
heard_as number (bad reason) = malformed (events.Malformed number reason)
heard_as number (pdu_read asdus) = pdu asdus

abbrev pub heard_view : Heard → PlainHeard
heard_view Other = other
heard_view (Malformed event) = malformed event
heard_view (Pdu asdus) = pdu (plain_asdus asdus.items)

-- Four in front of the sample sets, one for each of these, and at most sixteen in each.
abbrev pub most_heads : Heard → ℕ
most_heads Other = 4 + 17 * 16
most_heads (Malformed event) = 4 + 17 * 16
most_heads (Pdu asdus) = 4 + 17 * length asdus.items
