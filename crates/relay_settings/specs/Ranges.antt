-- The ranges of settings: a record for each table of the settings file, with a field for each key that
-- its type alone does not bound.
use Rattle.std.specs.Prelude.{◌≡◌, ◌≤◌, ◌⊎◌, ℕ, ℤ, pos, neg_ℤ, ◌≤ℤ◌, ◌<ℤ◌, false, ◌&&◌, ◌||◌, nat_le, IsTrue, is_some, IfSome, List, length, map, codes}
use Rattle.std.specs.List.{All, IsDistinct, list_all}
use Rattle.std.specs.Str.{bytes_eq}
use Rattle.relay_num.specs.declared.Cx.{Cx}
use Rattle.relay_settings.specs.declared.types.Settings.{Settings}
use Rattle.relay_settings.specs.declared.types.Common.{Common}
use Rattle.relay_settings.specs.declared.types.LineSettings.{LineSettings}
use Rattle.relay_settings.specs.declared.types.Mimic.{Mimic}
use Rattle.relay_settings.specs.declared.types.SwingSettings.{SwingSettings}
use Rattle.relay_settings.specs.declared.types.FuseSettings.{FuseSettings}
use Rattle.relay_settings.specs.declared.types.LoadSettings.{LoadSettings}
use Rattle.relay_settings.specs.declared.types.GooseSettings.{GooseSettings}
use Rattle.relay_settings.specs.declared.types.QuadSettings.{QuadSettings}
use Rattle.relay_settings.specs.declared.types.ZoneSettings.{ZoneSettings}
use Rattle.relay_settings.specs.declared.types.ZonePart.{ZonePart}
use Rattle.relay_settings.specs.declared.types.Shape.{Shape}
use Rattle.relay_settings.specs.declared.types.Shape.TheVariants.{Mho, Quad}

-- from low to high
abbrev pub IsCount : ℕ → ℕ → ℕ → Type 0
IsCount low high n = (low ≤ n) × (n ≤ high)

abbrev pub IsWhole : ℤ → ℤ → ℤ → Type 0
IsWhole low high z = (low ≤ℤ z) × (z ≤ℤ high)

-- a text of 1 to most bytes, each from low to 0x7E
abbrev pub IsText : ℕ → ℕ → List ℕ → Type 0
IsText low most text = (1 ≤ length text) × (length text ≤ most) × IsTrue (list_all (λ b. nat_le low b && nat_le b 126) text)

-- the samples a cycle of the rates and frequencies that the relay knows
abbrev pub IsCycle : ℕ → ℕ → ℕ → Type 0
IsCycle rate nominal n =
    ((rate ≡ 4800) × (nominal ≡ 50) × (n ≡ 96)) ⊎
    ((rate ≡ 4800) × (nominal ≡ 60) × (n ≡ 80)) ⊎
    ((rate ≡ 4000) × (nominal ≡ 50) × (n ≡ 80))

-- the start is of the years 1970 to 2099
pub record IsCommon (c : Common) : Type 0 where
  pub cycle : IsCycle c.rate c.nominal c.n
  pub start : c.start ≤ 4102444799
  pub heartbeat_ms : IsCount 100 60000 c.heartbeat_ms

pub record IsMimic (m : Mimic) : Type 0 where
  pub a : IsWhole (pos 0) (pos 65536) m.a
  pub b : IsWhole (pos 0) (pos 65536) m.b

-- the inner blinder is inside the outer
pub record IsSwing (s : SwingSettings) : Type 0 where
  pub outer_r : IsWhole (pos 1) (pos 1000000) s.outer_r
  pub outer_x : IsWhole (pos 1) (pos 1000000) s.outer_x
  pub inner_r : IsWhole (pos 1) (pos 1000000) s.inner_r
  pub inner_x : IsWhole (pos 1) (pos 1000000) s.inner_x
  pub inside_r : s.inner_r <ℤ s.outer_r
  pub inside_x : s.inner_x <ℤ s.outer_x
  pub pass_ms : IsCount 1 10000 s.pass_ms
  pub max_ms : IsCount 1 60000 s.max_ms
  pub i2_share : s.i2_share ≤ 1000

pub record IsFuse (f : FuseSettings) : Type 0 where
  pub u2_min : IsCount 1 100000000 f.u2_min
  pub i2_max : IsCount 1 100000000 f.i2_max
  pub hold_ms : IsCount 1 60000 f.hold_ms

pub record IsLoad (l : LoadSettings) : Type 0 where
  pub r : IsWhole (pos 1) (pos 1000000) l.r
  pub slope : IsWhole (pos 0) (pos 10000) l.slope

pub record IsGoose (g : GooseSettings) : Type 0 where
  pub vlan_priority : g.vlan_priority ≤ 7
  pub vlan_id : g.vlan_id ≤ 4095
  pub gocb_ref : IsText 0x20 129 g.gocb_ref.items
  pub dat_set : IsText 0x20 129 g.dat_set.items
  pub go_id : IsText 0x20 129 g.go_id.items

pub record IsReach (reach : Cx) : Type 0 where
  pub re : IsWhole (pos 0) (pos 1000000) reach.re
  pub im : IsWhole (pos 1) (pos 1000000) reach.im

pub record IsQuad (q : QuadSettings) : Type 0 where
  pub reach_r : IsWhole (pos 1) (pos 1000000) q.reach_r
  pub reach_x : IsWhole (pos 1) (pos 1000000) q.reach_x
  pub tilt : IsWhole (neg_ℤ (pos 500)) (pos 500) q.tilt
  pub slope : IsWhole (pos 0) (pos 1000) q.slope
  pub back_x : IsWhole (pos 0) (pos 1000000) q.back_x

abbrev pub IsShape : Shape → Type 0
IsShape (Mho reach) = IsReach reach
IsShape (Quad q) = IsQuad q

pub record IsZonePart (p : ZonePart) : Type 0 where
  pub shape : IsShape p.shape
  pub delay_ms : p.delay_ms ≤ 60000

-- a part is there, or both
pub record IsZone (z : ZoneSettings) : Type 0 where
  pub some : IsTrue (is_some z.ground || is_some z.phase)
  pub ground : IfSome z.ground IsZonePart
  pub phase : IfSome z.phase IsZonePart

-- the least smpSynch of a good sample
abbrev pub IsSynch : ℕ → Type 0
IsSynch synch_min = synch_min ≤ 2

pub record IsImpedance (line_r' line_x' k0_re' k0_im' : ℤ) : Type 0 where
  pub line_r : IsWhole (pos 0) (pos 1000000) line_r'
  pub line_x : IsWhole (pos 1) (pos 1000000) line_x'
  pub k0_re : IsWhole (neg_ℤ (pos 4000)) (pos 4000) k0_re'
  pub k0_im : IsWhole (neg_ℤ (pos 4000)) (pos 4000) k0_im'

pub record IsLimits (i_min' i0_min' dir_i2' mem_u' mem_ms' trip_min_ms' open_i' open_ms' : ℕ) : Type 0 where
  pub i_min : IsCount 1 100000000 i_min'
  pub i0_min : IsCount 1 100000000 i0_min'
  pub dir_i2 : IsCount 1 100000000 dir_i2'
  pub mem_u : IsCount 1 100000000 mem_u'
  pub mem_ms : mem_ms' ≤ 5000
  pub trip_min_ms : trip_min_ms' ≤ 10000
  pub open_i : IsCount 1 100000000 open_i'
  pub open_ms : IsCount 1 10000 open_ms'

pub record IsLine (l : LineSettings) : Type 0 where
  pub name : IsText 0x21 16 l.name.items
  pub not_frame : bytes_eq l.name.items (codes "frame") ≡ false
  pub sv_id : IsText 0x20 129 l.sv_id.items
  pub synch_min : IsSynch l.synch_min
  pub impedance : IsImpedance l.line_r l.line_x l.k0_re l.k0_im
  pub limits : IsLimits l.i_min l.i0_min l.dir_i2 l.mem_u l.mem_ms l.trip_min_ms l.open_i l.open_ms
  pub mimic : IfSome l.mimic IsMimic
  pub swing : IfSome l.swing IsSwing
  pub fuse : IfSome l.fuse IsFuse
  pub load : IfSome l.load IsLoad
  pub goose : IsGoose l.goose
  pub zones : All IsZone l.zones.items

pub record InRange (s : Settings) : Type 0 where
  pub common : IsCommon s.common
  pub some : 1 ≤ length s.lines.items
  pub few : length s.lines.items ≤ 16
  pub lines : All IsLine s.lines.items
  pub names : IsDistinct bytes_eq (map (λ l. l.name.items) s.lines.items)
  pub sv_ids : IsDistinct bytes_eq (map (λ l. l.sv_id.items) s.lines.items)
  pub gocb_refs : IsDistinct bytes_eq (map (λ l. l.goose.gocb_ref.items) s.lines.items)
