-- The settings as plain data: a list for each vector, text and array.
-- A type of numbers alone is used as declared.
use Rattle.std.specs.Prelude.{ℕ, ℤ, List, Option, map}
use Rattle.relay_settings.specs.declared.types.Settings.{Settings}
use Rattle.relay_settings.specs.declared.types.Common.{Common}
use Rattle.relay_settings.specs.declared.types.LineSettings.{LineSettings}
use Rattle.relay_settings.specs.declared.types.Mimic.{Mimic}
use Rattle.relay_settings.specs.declared.types.SwingSettings.{SwingSettings}
use Rattle.relay_settings.specs.declared.types.FuseSettings.{FuseSettings}
use Rattle.relay_settings.specs.declared.types.LoadSettings.{LoadSettings}
use Rattle.relay_settings.specs.declared.types.GooseSettings.{GooseSettings}
use Rattle.relay_settings.specs.declared.types.ZoneSettings.{ZoneSettings}

pub record PlainGoose : Type 0 where
  pub dst : List ℕ
  pub src : List ℕ
  pub appid : ℕ
  pub vlan_priority : ℕ
  pub vlan_id : ℕ
  pub gocb_ref : List ℕ
  pub dat_set : List ℕ
  pub go_id : List ℕ
  pub conf_rev : ℕ

pub record PlainLine : Type 0 where
  pub name : List ℕ
  pub sv_id : List ℕ
  pub conf_rev : ℕ
  pub quality_mask : ℕ
  pub synch_min : ℕ
  pub line_r : ℤ
  pub line_x : ℤ
  pub k0_re : ℤ
  pub k0_im : ℤ
  pub i_min : ℕ
  pub i0_min : ℕ
  pub dir_i2 : ℕ
  pub mem_u : ℕ
  pub mem_ms : ℕ
  pub trip_min_ms : ℕ
  pub open_i : ℕ
  pub open_ms : ℕ
  pub mimic : Option Mimic
  pub swing : Option SwingSettings
  pub fuse : Option FuseSettings
  pub load : Option LoadSettings
  pub goose : PlainGoose
  pub zones : List ZoneSettings

pub record PlainSettings : Type 0 where
  pub common : Common
  pub lines : List PlainLine

abbrev pub plain_goose : GooseSettings → PlainGoose
plain_goose g = record {
  dst = g.dst;
  src = g.src;
  appid = g.appid;
  vlan_priority = g.vlan_priority;
  vlan_id = g.vlan_id;
  gocb_ref = g.gocb_ref.items;
  dat_set = g.dat_set.items;
  go_id = g.go_id.items;
  conf_rev = g.conf_rev;
}

abbrev pub plain_line : LineSettings → PlainLine
plain_line l = record {
  name = l.name.items;
  sv_id = l.sv_id.items;
  conf_rev = l.conf_rev;
  quality_mask = l.quality_mask;
  synch_min = l.synch_min;
  line_r = l.line_r;
  line_x = l.line_x;
  k0_re = l.k0_re;
  k0_im = l.k0_im;
  i_min = l.i_min;
  i0_min = l.i0_min;
  dir_i2 = l.dir_i2;
  mem_u = l.mem_u;
  mem_ms = l.mem_ms;
  trip_min_ms = l.trip_min_ms;
  open_i = l.open_i;
  open_ms = l.open_ms;
  mimic = l.mimic;
  swing = l.swing;
  fuse = l.fuse;
  load = l.load;
  goose = plain_goose l.goose;
  zones = l.zones.items;
}

abbrev pub plain_lines : List LineSettings → List PlainLine
plain_lines = map plain_line

abbrev pub plain_settings : Settings → PlainSettings
plain_settings s = record { common = s.common; lines = plain_lines s.lines.items }
