-- What the guards hold: each has taken the ready samples of the run that ends at the newest.
use Rattle.std.specs.Prelude.{ℕ, Bool, false, not, List, [], ◌∷◌, Option, Some, None}
use Rattle.relay_num.specs.Numbers.{is_at_least}
use Rattle.relay_settings.specs.declared.types.SwingSettings.{SwingSettings}
use Rattle.relay_settings.specs.declared.types.FuseSettings.{FuseSettings}
use Rattle.memory_volt.specs.Polarising.{VoltTake, take_of as volt_take_of}
use Rattle.swing_block.specs.Swinging.{SwingTake, take_of as swing_take_of, is_swing}
use Rattle.swing_block.specs.KeptSwing.{StandsFor as StandsForSwing}
use Rattle.swing_block.specs.Blinders.{place_of, is_unbalanced}
use Rattle.swing_block.specs.declared.swing.Swing.{Swing}
use Rattle.supervise.specs.Fusing.{FuseTake, take_of as fuse_take_of, is_blown}
use Rattle.supervise.specs.KeptFuse.{StandsFor as StandsForFuse}
use Rattle.supervise.specs.declared.fuse.Fuse.{Fuse}
use Rattle.line_relay.specs.declared.measured.Measured.{Measured}

-- a run goes on with one more take, or ends
abbrev pub next_run : {X : Type 0} → Option X → List X → List X
next_run None takes = []
next_run (Some t) takes = t ∷ takes

-- what each guard takes of what is measured
abbrev pub volt_take : ℕ → ℕ → Measured → VoltTake
volt_take n mem_u m = volt_take_of m.voltage.plus (not (is_at_least m.voltage.plus n mem_u))

abbrev pub swing_take : SwingSettings → Measured → SwingTake
swing_take s m = swing_take_of (place_of s m.voltage.plus m.current.plus) (is_unbalanced s m.current.plus m.current.minus)

abbrev pub fuse_take : ℕ → FuseSettings → Measured → FuseTake
fuse_take n s m = fuse_take_of (is_at_least m.voltage.minus n s.u2_min) (not (is_at_least m.current.minus n s.i2_max))

-- a swing is there exactly where its table is
abbrev pub SwingStandsFor : ℕ → (SwingSettings → List SwingTake) → Option SwingSettings → Option Swing → Type 0
SwingStandsFor rate takes None None = Unit {0}
SwingStandsFor rate takes None (Some swing) = ⊥
SwingStandsFor rate takes (Some s) None = ⊥
SwingStandsFor rate takes (Some s) (Some swing) = StandsForSwing s rate (takes s) swing

abbrev pub swings_by : ℕ → Option SwingSettings → (SwingSettings → List SwingTake) → Bool
swings_by rate None takes = false
swings_by rate (Some s) takes = is_swing s rate (takes s)

-- and so is a fuse
abbrev pub FuseStandsFor : ℕ → (FuseSettings → List FuseTake) → Option FuseSettings → Option Fuse → Type 0
FuseStandsFor rate takes None None = Unit {0}
FuseStandsFor rate takes None (Some fuse) = ⊥
FuseStandsFor rate takes (Some s) None = ⊥
FuseStandsFor rate takes (Some s) (Some fuse) = StandsForFuse s rate (takes s) fuse

abbrev pub blows_by : ℕ → Option FuseSettings → (FuseSettings → List FuseTake) → Bool
blows_by rate None takes = false
blows_by rate (Some s) takes = is_blown s rate (takes s)
