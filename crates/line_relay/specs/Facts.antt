-- What holds at the newest taken sample, formed anew from all of them.
use Rattle.std.specs.Prelude.{ℕ, Bool, List}
use Rattle.relay_settings.specs.declared.types.Common.{Common}
use Rattle.relay_settings.specs.Settings.{PlainLine}
use Rattle.zone_timers.specs.NumberedOperate.{inside_masks, operates_masks}
use Rattle.line_relay.specs.LineSamples.{Numbered, number_of_sample}
use Rattle.line_relay.specs.Guards.{is_ready_at, is_swing_at, is_blown_at}
use Rattle.line_relay.specs.Operate.{is_inside_at, ground_delays, phase_delays, is_tripped_at}

-- each mask has the loops of one of five zones
pub record Facts : Type 0 where
  pub ready : Bool
  pub swing : Bool
  pub fuse : Bool
  pub inside : List ℕ
  pub operate : List ℕ
  pub trip : Bool

module _ (common : Common) (settings : PlainLine) where
  abbrev pub inside_at : List Numbered → List ℕ
  inside_at past = inside_masks number_of_sample (is_inside_at common settings) past

  abbrev pub operate_at : List Numbered → List ℕ
  operate_at past = operates_masks number_of_sample (is_inside_at common settings) (ground_delays common settings) (phase_delays common settings) past

  abbrev pub facts_of : List Numbered → Facts
  facts_of past = record {
    ready = is_ready_at common settings past;
    swing = is_swing_at common settings past;
    fuse = is_blown_at common settings past;
    inside = inside_at past;
    operate = operate_at past;
    trip = is_tripped_at common settings past;
  }
