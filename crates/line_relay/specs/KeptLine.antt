-- What a line holds after its sample sets: each of its parts is after what it was told of them.
use Rattle.std.specs.Prelude.{ℕ, ◌≡◌, List, Option}
use Rattle.sample_windows.specs.Windows.{at_each}
use Rattle.sample_windows.specs.Numbered.{newest_number, of_run}
use Rattle.relay_settings.specs.declared.types.Common.{Common}
use Rattle.relay_settings.specs.declared.types.SwingSettings.{SwingSettings}
use Rattle.relay_settings.specs.declared.types.FuseSettings.{FuseSettings}
use Rattle.relay_settings.specs.Settings.{PlainLine, plain_line}
use Rattle.relay_settings.specs.Times.{samples}
use Rattle.sv_frame.specs.Asdu.{PlainAsdu}
use Rattle.memory_volt.specs.Polarising.{VoltTake}
use Rattle.memory_volt.specs.KeptMemory.{StandsFor as MemoryStandsFor}
use Rattle.swing_block.specs.Swinging.{SwingTake}
use Rattle.supervise.specs.Fusing.{FuseTake}
use Rattle.zone_timers.specs.KeptTimers.{StandsFor as TimersStandFor}
use Rattle.trip_logic.specs.Takes.{TripTake, take_of}
use Rattle.trip_logic.specs.KeptTrip.{StandsFor as TripStandsFor}
use Rattle.goose_publish.specs.Publishers.{StandsFor as PublisherStandsFor}
use Rattle.memory_volt.specs.declared.MemoryVolt.{MemoryVolt}
use Rattle.swing_block.specs.declared.swing.Swing.{Swing}
use Rattle.supervise.specs.declared.fuse.Fuse.{Fuse}
use Rattle.zone_timers.specs.declared.Timers.{Timers}
use Rattle.trip_logic.specs.declared.Trip.{Trip}
use Rattle.goose_publish.specs.declared.publisher.Publisher.{Publisher}
use Rattle.line_relay.specs.declared.line.Line.{Line}
use Rattle.line_relay.specs.declared.shown.Shown.{Shown}
use Rattle.line_relay.specs.Shown.{facts_shown}
use Rattle.line_relay.specs.LineSamples.{Numbered, number_of_sample}
use Rattle.line_relay.specs.Outcomes.{taken_samples}
use Rattle.line_relay.specs.Guards.{is_ready_at, measured_at}
use Rattle.line_relay.specs.Operate.{ground_delays, phase_delays, trips_at, is_dead_at}
use Rattle.line_relay.specs.Facts.{facts_of, inside_at}
use Rattle.line_relay.specs.Points.{points_take}
use Rattle.line_relay.specs.Fronts.{last_of as last_of_front, StandsFor as FrontStandsFor}
use Rattle.line_relay.specs.KeptGuards.{volt_take, swing_take, fuse_take, SwingStandsFor, FuseStandsFor}

-- the last number that was taken
abbrev pub last_of : Line → Option ℕ
last_of line = last_of_front line.front

abbrev pub name_of : Line → List ℕ
name_of line = line.settings.name.items

-- the parts of a line behind its front
pub record Kept : Type 0 where
  pub memory : MemoryVolt
  pub swing : Option Swing
  pub fuse : Option Fuse
  pub timers : Timers
  pub trip : Trip
  pub publisher : Publisher
  pub shown : Shown

abbrev pub kept_by : Line → Kept
kept_by line = record {
  memory = line.memory;
  swing = line.swing;
  fuse = line.fuse;
  timers = line.timers;
  trip = line.trip;
  publisher = line.publisher;
  shown = line.shown;
}

module _ (common : Common) (settings : PlainLine) where
  -- what each part has taken: a guard the ready samples of the run that ends at the newest, the others every sample
  abbrev pub volt_takes : List Numbered → List VoltTake
  volt_takes past = of_run number_of_sample (is_ready_at common settings) (λ p. volt_take common.n settings.mem_u (measured_at common settings p)) past

  abbrev pub swing_takes : SwingSettings → List Numbered → List SwingTake
  swing_takes s past = of_run number_of_sample (is_ready_at common settings) (λ p. swing_take s (measured_at common settings p)) past

  abbrev pub fuse_takes : FuseSettings → List Numbered → List FuseTake
  fuse_takes s past = of_run number_of_sample (is_ready_at common settings) (λ p. fuse_take common.n s (measured_at common settings p)) past

  abbrev pub trip_take : List Numbered → TripTake
  trip_take past = take_of (newest_number number_of_sample past) (trips_at common settings past) (is_dead_at common settings past)

  pub record HoldsFor (past : List Numbered) (kept : Kept) : Type 0 where
    pub memory : MemoryStandsFor common.n (samples common.rate settings.mem_ms) (volt_takes past) kept.memory
    pub swing : SwingStandsFor common.rate (λ s. swing_takes s past) settings.swing kept.swing
    pub fuse : FuseStandsFor common.rate (λ s. fuse_takes s past) settings.fuse kept.fuse
    pub timers : TimersStandFor (ground_delays common settings) (phase_delays common settings) (at_each (inside_at common settings) past) kept.timers
    pub trip : TripStandsFor (samples common.rate settings.trip_min_ms) (samples common.rate settings.open_ms) (at_each trip_take past) kept.trip
    pub publisher : PublisherStandsFor common settings.goose (at_each (points_take common settings) past) kept.publisher
    pub shown : facts_shown kept.shown (facts_of common settings past).trip ≡ facts_of common settings past

-- the line with these settings after these sample sets, the newest first
pub record StandsFor (common : Common) (settings : PlainLine) (asdus : List PlainAsdu) (line : Line) : Type 0 where
  pub same_common : line.common ≡ common
  pub same_settings : plain_line line.settings ≡ settings
  pub front : FrontStandsFor common settings asdus line.front
  pub parts : HoldsFor common settings (taken_samples common settings asdus) (kept_by line)
