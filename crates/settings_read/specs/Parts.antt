-- The ranges of the parts of a line that are read together, and what the lines of a file are.
use Rattle.std.specs.Prelude.{◌≡◌, false, IfSome, List, map}
use Rattle.std.specs.List.{All, IsDistinct, list_any}
use Rattle.std.specs.Str.{bytes_eq}
use Rattle.relay_settings.specs.declared.types.LineSettings.{LineSettings}
use Rattle.relay_settings.specs.Ranges.{IsSynch, IsImpedance, IsLimits, IsMimic, IsSwing, IsFuse, IsLoad, IsLine}
use Rattle.settings_read.specs.declared.line.Stream.{Stream}
use Rattle.settings_read.specs.declared.line.Impedance.{Impedance}
use Rattle.settings_read.specs.declared.line.Limits.{Limits}
use Rattle.settings_read.specs.declared.line.Guards.{Guards}

abbrev pub IsStream : Stream → Type 0
IsStream s = IsSynch s.synch_min

abbrev pub IsImpedanceRead : Impedance → Type 0
IsImpedanceRead z = IsImpedance z.line_r z.line_x z.k0_re z.k0_im

abbrev pub IsLimitsRead : Limits → Type 0
IsLimitsRead l = IsLimits l.i_min l.i0_min l.dir_i2 l.mem_u l.mem_ms l.trip_min_ms l.open_i l.open_ms

pub record IsGuards (g : Guards) : Type 0 where
  pub mimic : IfSome g.mimic IsMimic
  pub swing : IfSome g.swing IsSwing
  pub fuse : IfSome g.fuse IsFuse
  pub load : IfSome g.load IsLoad

-- no line so far has a text of this one
pub record IsNew (done : List LineSettings) (l : LineSettings) : Type 0 where
  pub name : list_any (λ d. bytes_eq d.name.items l.name.items) done ≡ false
  pub sv_id : list_any (λ d. bytes_eq d.sv_id.items l.sv_id.items) done ≡ false
  pub gocb_ref : list_any (λ d. bytes_eq d.goose.gocb_ref.items l.goose.gocb_ref.items) done ≡ false

pub record AreLines (lines : List LineSettings) : Type 0 where
  pub each : All IsLine lines
  pub names : IsDistinct bytes_eq (map (λ l. l.name.items) lines)
  pub sv_ids : IsDistinct bytes_eq (map (λ l. l.sv_id.items) lines)
  pub gocb_refs : IsDistinct bytes_eq (map (λ l. l.goose.gocb_ref.items) lines)
