-- What marks the parts of a frame of sampled values: the EtherTypes in front, and the tags of IEC 61850-9-2, those of the
-- SavPdu and those of an ASDU's fields.
use Rattle.std.specs.Prelude.{ℕ}

-- EtherTypes: a tag of a virtual network, and sampled values
abbrev pub virtual_network : ℕ
virtual_network = 0x8100

abbrev pub sampled_values : ℕ
sampled_values = 0x88ba

-- the SavPdu (savPdu), with noASDU, security and seqASDU, and an ASDU of the sequence
abbrev pub sav_pdu : ℕ
sav_pdu = 0x60

abbrev pub asdu_count : ℕ
asdu_count = 0x80

abbrev pub security : ℕ
security = 0x81

abbrev pub asdu_sequence : ℕ
asdu_sequence = 0xa2

abbrev pub asdu : ℕ
asdu = 0x30

-- the required fields of an ASDU: svID, smpCnt, confRev, smpSynch and the sample data
abbrev pub sv_id : ℕ
sv_id = 0x80

abbrev pub counter : ℕ
counter = 0x82

abbrev pub conf_rev : ℕ
conf_rev = 0x83

abbrev pub synch : ℕ
synch = 0x85

abbrev pub samples : ℕ
samples = 0x87

-- the least and the greatest tag that an ASDU knows: svID and gmIdentity
abbrev pub first_field : ℕ
first_field = 0x80

abbrev pub last_field : ℕ
last_field = 0x89
