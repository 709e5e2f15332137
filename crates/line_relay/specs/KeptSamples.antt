-- What a front keeps of the samples: the filtered values of the last run of good ones, at most a cycle, and what the
-- mimic filter needs at the next number. No definition of what a line says speaks of these.
use Rattle.std.specs.Prelude.{ℕ, ◌+◌, ◌-◌, Bool, if◌then◌else◌, List, [], ◌∷◌, Option, Some, None, ℤ, take, drop, reverse}
use Rattle.sample_windows.specs.Windows.{at_each}
use Rattle.sample_windows.specs.Numbered.{run_of}
use Rattle.circular_buffer.specs.Buffer.{keep_last}
use Rattle.relay_settings.specs.declared.types.Mimic.{Mimic}
use Rattle.sample_stream.specs.declared.sample.Sample.{Sample}
use Rattle.mimic_filter.specs.Mimic.{filtered_lanes}
use Rattle.line_relay.specs.LineSamples.{Numbered, number_of_sample, good_now, values_now, needed}

-- the number that follows the last one
abbrev pub next_after : Option ℕ → ℕ
next_after None = 0
next_after (Some last) = last + 1

-- the filtered values of the newest sample, where it follows the one before
abbrev pub lanes_now : Option Mimic → List Numbered → List ℤ
lanes_now None samples = values_now samples
lanes_now (Some m) samples = filtered_lanes m.a m.b (values_now samples) (values_now (drop 1 samples))

-- those of the last run of good samples, the oldest first, at most n
unfoldable pub window : ℕ → Option Mimic → List Numbered → List (List ℤ)
window n mimic samples = keep_last n (reverse (take (run_of number_of_sample good_now samples - needed mimic) (at_each (lanes_now mimic) samples)))

-- the values of a sample that the filter needs at the next number
abbrev pub kept_values : Option Mimic → Sample → Option (List ℤ)
kept_values None sample = None
kept_values (Some m) sample = if sample.good then Some sample.values else None

abbrev pub kept_now : Option Mimic → List Numbered → Option (List ℤ)
kept_now mimic [] = None
kept_now mimic (s ∷ older) = kept_values mimic s.sample

-- the filtered values after those kept before, where they are there
abbrev pub filter_after : Option Mimic → Option (List ℤ) → List ℤ → Option (List ℤ)
filter_after None before values = Some values
filter_after (Some m) None values = None
filter_after (Some m) (Some before) values = Some (filtered_lanes m.a m.b values before)

abbrev pub lanes_after : Option Mimic → Option (List ℤ) → Bool → Sample → Option (List ℤ)
lanes_after mimic before follows sample = if sample.good then filter_after mimic (if follows then before else None) sample.values else None
