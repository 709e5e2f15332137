-- The bytes of a GOOSE frame: Ethernet with a tag of a virtual network, and the PDU in the basic encoding rules
-- (IEC 61850-8-1, the GOOSE PDU; ITU-T X.690).
use Rattle.std.specs.Prelude.{ℕ, ◌+◌, ◌*◌, ◌/◌, ◌%◌, ◌^◌, Bool, false, ◌||◌, if◌then◌else◌, List, [], ◌∷◌, ◌++◌, length}
use Rattle.byteorder.specs.Endian.{big_bytes}
use Rattle.ber_fields.specs.Written.{field, shortest, truth}
use Rattle.relay_settings.specs.declared.types.Common.{Common}
use Rattle.relay_settings.specs.Settings.{PlainGoose}
use Rattle.goose_publish.specs.declared.points.Points.{Points}
use Rattle.goose_publish.specs.declared.points.Send.{Send}
use Rattle.goose_publish.specs.Tags as tags

-- the time of a sample: the second since 1970, the fraction of it in 24 bits, and the time's quality, by which ten
-- bits of the fraction are valid
abbrev pub time_bytes : Common → ℕ → List ℕ
time_bytes common number =
    big_bytes 4 ((common.start + number / common.rate) % 2 ^ 32)
    ++ big_bytes 3 (number % common.rate * 2 ^ 24 / common.rate)
    ++ 0x0A ∷ []

-- thirteen bits, of which the first two are the validity: 00 is good, 01 is invalid
abbrev pub quality_field : Bool → List ℕ
quality_field is_good = field tags.bit_string (3 ∷ (if is_good then 0 else 0x40) ∷ 0 ∷ [])

-- the nine values of the data set: a trip that stands is valid where the sample isn't ready
unfoldable pub values_bytes : Points → List ℕ
values_bytes points =
    field tags.boolean (truth points.trip) ++ quality_field (points.ready || points.trip)
    ++ field tags.boolean (truth points.start) ++ quality_field points.ready
    ++ field tags.boolean (truth points.swing) ++ quality_field points.ready
    ++ field tags.boolean (truth points.fuse) ++ quality_field points.ready
    ++ field tags.unsigned (shortest points.zones)

-- gocbRef, timeAllowedtoLive, datSet, goID, t, stNum, sqNum, simulation, confRev, ndsCom, numDatSetEntries, allData
unfoldable pub fields_bytes : Common → PlainGoose → Send → List ℕ
fields_bytes common goose send =
    field tags.gocb_ref goose.gocb_ref
    ++ field tags.time_to_live (shortest send.live_ms)
    ++ field tags.dat_set goose.dat_set
    ++ field tags.go_id goose.go_id
    ++ field tags.time (time_bytes common send.change)
    ++ field tags.state_number (shortest send.state)
    ++ field tags.sequence_number (shortest send.sequence)
    ++ field tags.simulation (truth false)
    ++ field tags.conf_rev (shortest goose.conf_rev)
    ++ field tags.needs_commissioning (truth false)
    ++ field tags.entry_count (shortest 9)
    ++ field tags.all_data (values_bytes send.points)

abbrev pub pdu_bytes : Common → PlainGoose → Send → List ℕ
pdu_bytes common goose send = field tags.goose_pdu (fields_bytes common goose send)

-- Destination, source, tag, EtherType, APPID, Length, two reserved words and the PDU. Length counts from the APPID
-- to the end.
unfoldable pub frame_bytes : Common → PlainGoose → Send → List ℕ
frame_bytes common goose send =
    goose.dst ++ goose.src
    ++ big_bytes 2 tags.virtual_network ++ big_bytes 2 (goose.vlan_priority * 8192 + goose.vlan_id)
    ++ big_bytes 2 tags.goose ++ big_bytes 2 goose.appid
    ++ big_bytes 2 (length (pdu_bytes common goose send) + 8) ++ big_bytes 2 0 ++ big_bytes 2 0
    ++ pdu_bytes common goose send
