-- Inverse-time overcurrent (ANSI 51) of a phase over the samples that a line has taken, the newest first: each fact is formed
-- anew. That the element resets at once where the current drops below the pickup, at a gap and at a bad sample is this
-- project's own.
use Rattle.std.specs.Prelude.{ℕ, Bool, ◌&&◌, nat_le, List}
use Rattle.std.specs.List.{sum}
use Rattle.sample_windows.specs.Numbered.{of_run}
use Rattle.relay_settings.specs.declared.types.Common.{Common}
use Rattle.relay_settings.specs.Settings.{PlainLine}
use Rattle.line_relay.specs.LineSamples.{Numbered, number_of_sample}
use Rattle.line_relay.specs.Phasors.{phasor_of}
use Rattle.line_relay.specs.Guards.{is_ready_at}
use Rattle.inverse_time.specs.declared.curve.Dial.{Dial}
use Rattle.inverse_time.specs.Multiples.{multiple_of}
use Rattle.inverse_time.specs.InverseCurves.{excess_of, is_enough}

module _ (common : Common) (settings : PlainLine) (dial : Dial) (phase : ℕ) where
  -- the multiple of the pickup, squared, at the newest sample; the phases 0, 1 and 2 are A, B and C
  abbrev pub multiple_at : List Numbered → ℕ
  multiple_at past = multiple_of (phasor_of common.n settings.mimic past phase) common.n dial.pickup

  -- picked up: the sample is ready, and the current at least the pickup
  abbrev pub is_picked_at : List Numbered → Bool
  is_picked_at past = is_ready_at common settings past && nat_le 1000000 (multiple_at past)

  abbrev pub excess_at : List Numbered → ℕ
  excess_at past = excess_of dial.curve (multiple_at past)

  -- what each sample adds of the run of picked up numbers that ends at the newest
  abbrev pub excesses_at : List Numbered → List ℕ
  excesses_at past = of_run number_of_sample is_picked_at excess_at past

  -- operated: the sum over that run has come to the curve's time
  abbrev pub is_done_at : List Numbered → Bool
  is_done_at past = is_picked_at past && is_enough dial.curve dial.tms common.rate (sum (excesses_at past))
