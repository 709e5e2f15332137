-- The settings of a drill as plain data: two lines that differ in their names, svIDs, GOOSE destinations, APPIDs and control
-- blocks.
use Rattle.std.specs.Prelude.{ℕ, List, [], ◌∷◌, Option, Some, None, true, false, pos, codes}
use Rattle.relay_settings.specs.declared.types.Common.{Common}
use Rattle.relay_settings.specs.declared.types.ZonePart.{ZonePart}
use Rattle.relay_settings.specs.declared.types.ZoneSettings.{ZoneSettings}
use Rattle.relay_settings.specs.declared.types.Shape.TheVariants.{Mho}
use Rattle.relay_settings.specs.declared.types.Dir.TheVariants.{Forward}
use Rattle.relay_settings.specs.Settings.{PlainGoose, PlainLine, PlainSettings}
use Rattle.drill.specs.declared.slot.Line.{Line}
use Rattle.drill.specs.declared.slot.Line.TheVariants.{First, Second}
use Rattle.drill.specs.Slots.{sv_id_of}

-- 4800 samples a second at 50 Hz, from 2024-01-01T00:00:00Z on
abbrev pub drill_common : Common
drill_common = record { rate = 4800; nominal = 50; n = 96; start = 1704067200; heartbeat_ms = 1000 }

-- a forward circle of 12500 milliohms of reactance, without delay
abbrev pub drill_part : ZonePart
drill_part = record { shape = Mho (record { re = pos 0; im = pos 12500 }); delay_ms = 0 }

-- a zone of these parts that trips, and that nothing blocks
abbrev pub tripping : (ground : Option ZonePart) → (phase : Option ZonePart) → ZoneSettings
tripping ground phase =
    record { ground = ground; phase = phase; dir = Forward; trip = true; swing_block = false; load_block = false }

abbrev pub drill_zone : ZoneSettings
drill_zone = tripping (Some drill_part) (Some drill_part)

abbrev pub number_of : Line → ℕ
number_of First = 1
number_of Second = 2

unfoldable pub name_of : Line → List ℕ
name_of First = codes "L1"
name_of Second = codes "L2"

abbrev pub gocb_ref_of : Line → List ℕ
gocb_ref_of First = codes "P1/LLN0$GO$G1"
gocb_ref_of Second = codes "P1/LLN0$GO$G2"

unfoldable pub drill_goose : Line → PlainGoose
drill_goose line = record {
  dst = 0x01 ∷ 0x0C ∷ 0xCD ∷ 0x01 ∷ 0x00 ∷ number_of line ∷ [];
  src = 0x02 ∷ 0x00 ∷ 0x00 ∷ 0x00 ∷ 0x00 ∷ 0x02 ∷ [];
  appid = number_of line;
  vlan_priority = 4;
  vlan_id = 0;
  gocb_ref = gocb_ref_of line;
  dat_set = codes "P1/LLN0$DS1";
  go_id = codes "G1";
  conf_rev = 1;
}

unfoldable pub drill_line : Line → PlainLine
drill_line line = record {
  name = name_of line;
  sv_id = sv_id_of line;
  conf_rev = 1;
  quality_mask = 3;
  synch_min = 0;
  line_r = pos 0;
  line_x = pos 15000;
  k0_re = pos 600;
  k0_im = pos 0;
  i_min = 200000;
  i0_min = 100000;
  dir_i2 = 100000;
  mem_u = 1000000;
  mem_ms = 200;
  trip_min_ms = 100;
  open_i = 50000;
  open_ms = 20;
  mimic = None;
  swing = None;
  fuse = None;
  load = None;
  goose = drill_goose line;
  zones = drill_zone ∷ [];
}

unfoldable pub drill_settings : PlainSettings
drill_settings = record { common = drill_common; lines = drill_line First ∷ drill_line Second ∷ [] }
