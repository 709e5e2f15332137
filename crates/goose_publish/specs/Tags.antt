-- What marks the parts of a GOOSE frame: the EtherTypes in front, and the tags of IEC 61850-8-1, those of the GOOSE PDU
-- and those of the values in its data set.
use Rattle.std.specs.Prelude.{ℕ}

-- EtherTypes: a tag of a virtual network, and GOOSE
abbrev pub virtual_network : ℕ
virtual_network = 0x8100

abbrev pub goose : ℕ
goose = 0x88B8

-- the PDU (goosePdu)
abbrev pub goose_pdu : ℕ
goose_pdu = 0x61

-- its fields: gocbRef, timeAllowedtoLive, datSet, goID, t, stNum, sqNum, simulation, confRev, ndsCom, numDatSetEntries
-- and allData
abbrev pub gocb_ref : ℕ
gocb_ref = 0x80

abbrev pub time_to_live : ℕ
time_to_live = 0x81

abbrev pub dat_set : ℕ
dat_set = 0x82

abbrev pub go_id : ℕ
go_id = 0x83

abbrev pub time : ℕ
time = 0x84

abbrev pub state_number : ℕ
state_number = 0x85

abbrev pub sequence_number : ℕ
sequence_number = 0x86

abbrev pub simulation : ℕ
simulation = 0x87

abbrev pub conf_rev : ℕ
conf_rev = 0x88

abbrev pub needs_commissioning : ℕ
needs_commissioning = 0x89

abbrev pub entry_count : ℕ
entry_count = 0x8A

abbrev pub all_data : ℕ
all_data = 0xAB

-- the values of the data set: boolean, bit-string and unsigned
abbrev pub boolean : ℕ
boolean = 0x83

abbrev pub bit_string : ℕ
bit_string = 0x84

abbrev pub unsigned : ℕ
unsigned = 0x86
