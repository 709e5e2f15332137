-- The table of a line: its keys in four groups, its tables and its zones.
use Rattle.std.specs.Prelude.{ℕ, pos, neg_ℤ, codes, if◌then◌else◌, List, [], ◌∷◌, Option, Some, None, Ok}
use Rattle.std.specs.Str.{bytes_eq}
use Rattle.relay_settings.specs.Settings.{PlainLine}
use Rattle.settings_read.specs.declared.line.Stream.{Stream}
use Rattle.settings_read.specs.declared.line.Impedance.{Impedance}
use Rattle.settings_read.specs.declared.line.Limits.{Limits}
use Rattle.settings_read.specs.declared.line.Guards.{Guards}
use Rattle.settings_read.specs.declared.version.Version.{Version}
use Rattle.settings_read.specs.Walk.{Answer, ◌>>=◌, Place, only, required, optional, whole, count, text, required_table, optional_table, word}
use Rattle.settings_read.specs.MimicTable.{mimic_at}
use Rattle.settings_read.specs.SwingTable.{swing_at}
use Rattle.settings_read.specs.FuseTable.{fuse_at}
use Rattle.settings_read.specs.LoadTable.{load_at}
use Rattle.settings_read.specs.GooseTable.{goose_at}
use Rattle.settings_read.specs.ZoneList.{zones_at}

abbrev pub line_keys : List (List ℕ)
line_keys =
    codes "name" ∷ codes "sv_id" ∷ codes "conf_rev" ∷ codes "quality_mask" ∷ codes "synch_min" ∷
    codes "line_r" ∷ codes "line_x" ∷ codes "k0_re" ∷ codes "k0_im" ∷
    codes "i_min" ∷ codes "i0_min" ∷ codes "dir_i2" ∷ codes "mem_u" ∷ codes "mem_ms" ∷ codes "trip_min_ms" ∷ codes "open_i" ∷ codes "open_ms" ∷
    codes "mimic" ∷ codes "swing" ∷ codes "fuse" ∷ codes "load" ∷ codes "goose" ∷ codes "zone" ∷ []

-- any word but the one that the log has for malformed frames
abbrev pub name_of_word : List ℕ → Option (List ℕ)
name_of_word word = if bytes_eq word (codes "frame") then None else Some word

-- which samples it takes
unfoldable pub stream_at : Place → Answer Stream
stream_at here = do
  conf_rev ← required (count 0 4294967295) here (codes "conf_rev")
  quality_mask ← optional (count 0 4294967295) 3 here (codes "quality_mask")
  synch_min ← optional (count 0 2) 0 here (codes "synch_min")
  Ok (record { conf_rev = conf_rev; quality_mask = quality_mask; synch_min = synch_min })

unfoldable pub impedance_at : Place → Answer Impedance
impedance_at here = do
  line_r ← required (whole (pos 0) (pos 1000000)) here (codes "line_r")
  line_x ← required (whole (pos 1) (pos 1000000)) here (codes "line_x")
  k0_re ← required (whole (neg_ℤ (pos 4000)) (pos 4000)) here (codes "k0_re")
  k0_im ← required (whole (neg_ℤ (pos 4000)) (pos 4000)) here (codes "k0_im")
  Ok (record { line_r = line_r; line_x = line_x; k0_re = k0_re; k0_im = k0_im })

-- its levels and times
unfoldable pub limits_at : Place → Answer Limits
limits_at here = do
  i_min ← required (count 1 100000000) here (codes "i_min")
  i0_min ← required (count 1 100000000) here (codes "i0_min")
  dir_i2 ← required (count 1 100000000) here (codes "dir_i2")
  mem_u ← required (count 1 100000000) here (codes "mem_u")
  mem_ms ← required (count 0 5000) here (codes "mem_ms")
  trip_min_ms ← required (count 0 10000) here (codes "trip_min_ms")
  open_i ← required (count 1 100000000) here (codes "open_i")
  open_ms ← required (count 1 10000) here (codes "open_ms")
  Ok (record { i_min = i_min; i0_min = i0_min; dir_i2 = dir_i2; mem_u = mem_u; mem_ms = mem_ms; trip_min_ms = trip_min_ms; open_i = open_i; open_ms = open_ms })

-- its tables that may be missing
unfoldable pub guards_at : Place → Answer Guards
guards_at here = do
  mimic ← optional_table mimic_at here (codes "mimic")
  swing ← optional_table swing_at here (codes "swing")
  fuse ← optional_table fuse_at here (codes "fuse")
  load ← optional_table load_at here (codes "load")
  Ok (record { mimic = mimic; swing = swing; fuse = fuse; load = load })

unfoldable pub line_at : Version → Place → Answer PlainLine
line_at version here = do
  _ ← only here line_keys
  name ← word 16 name_of_word here (codes "name")
  sv_id ← required (text 0x20 129) here (codes "sv_id")
  stream ← stream_at here
  impedance ← impedance_at here
  limits ← limits_at here
  guards ← guards_at here
  goose ← required_table goose_at here (codes "goose")
  zones ← zones_at version here
  Ok (record {
    name = name;
    sv_id = sv_id;
    conf_rev = stream.conf_rev;
    quality_mask = stream.quality_mask;
    synch_min = stream.synch_min;
    line_r = impedance.line_r;
    line_x = impedance.line_x;
    k0_re = impedance.k0_re;
    k0_im = impedance.k0_im;
    i_min = limits.i_min;
    i0_min = limits.i0_min;
    dir_i2 = limits.dir_i2;
    mem_u = limits.mem_u;
    mem_ms = limits.mem_ms;
    trip_min_ms = limits.trip_min_ms;
    open_i = limits.open_i;
    open_ms = limits.open_ms;
    mimic = guards.mimic;
    swing = guards.swing;
    fuse = guards.fuse;
    load = guards.load;
    goose = goose;
    zones = zones;
  })
