-- The run of samples that a lookback stands for, the newest first: it holds the phase currents at the newest of them, of two
-- cycles, where a sample was ready.
use Rattle.std.specs.Prelude.{ℕ, ◌≡◌, ◌*◌, Bool, if◌then◌else◌, List, [], ◌∷◌, Option, Some, None, take, reverse, slice_get}
use Rattle.std.specs.Option.{option_flatten}
use Rattle.circular_buffer.specs.Buffer.{buffer}
use Rattle.sample_windows.specs.Numbered.{of_run}
use Rattle.relay_num.specs.declared.Cx.{Cx}
use Rattle.relay_settings.specs.declared.types.Common.{Common}
use Rattle.relay_settings.specs.Settings.{PlainLine}
use Rattle.line_relay.specs.LineSamples.{Numbered, number_of_sample}
use Rattle.line_relay.specs.Guards.{is_ready_at, measured_at}
use Rattle.fault_locate.specs.declared.lookback.Lookback.{Lookback}
use Rattle.fault_locate.specs.Locating.{is_taken}

-- a run after one more sample, which follows the last number or begins the run anew
abbrev pub run_with : {X : Type 0} → Bool → X → List X → List X
run_with follows x run = x ∷ (if follows then run else [])

-- what was kept so many samples before the newest
abbrev pub kept_before : ℕ → List (Option (List Cx)) → Option (List Cx)
kept_before k run = option_flatten (slice_get run k)

pub record StandsFor (n : ℕ) (run : List (Option (List Cx))) (lookback : Lookback) : Type 0 where
  pub ring : lookback.ring ≡ buffer (reverse (take (2 * n) run)) (2 * n)

module _ (common : Common) (settings : PlainLine) where
  -- the phase currents at the newest sample, where it is ready
  abbrev pub currents_at : List Numbered → Option (List Cx)
  currents_at past = if is_ready_at common settings past then Some (measured_at common settings past).currents else None

  -- at each sample of the run of numbers that ends at the newest
  abbrev pub currents_of_run : List Numbered → List (Option (List Cx))
  currents_of_run past = of_run number_of_sample is_taken currents_at past
