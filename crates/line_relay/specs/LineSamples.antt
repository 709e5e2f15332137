-- The samples that a line has taken, the newest first, and where a whole cycle of good ones ends.
use Rattle.std.specs.Prelude.{ℕ, ◌+◌, Bool, false, List, [], ◌∷◌, Option, Some, None, ℤ}
use Rattle.sample_windows.specs.Numbered.{held_for}
use Rattle.relay_settings.specs.declared.types.Mimic.{Mimic}
use Rattle.sample_stream.specs.declared.sample.Sample.{Sample}

-- a sample that was taken, and its number
pub record Numbered : Type 0 where
  pub number : ℕ
  pub sample : Sample

abbrev pub number_of_sample : Numbered → ℕ
number_of_sample s = s.number

-- the number of the newest sample
abbrev pub newest_of : List Numbered → Option ℕ
newest_of [] = None
newest_of (s ∷ older) = Some s.number

-- whether the newest sample is good
abbrev pub good_now : List Numbered → Bool
good_now [] = false
good_now (s ∷ older) = s.sample.good

-- the values of the newest sample
abbrev pub values_now : List Numbered → List ℤ
values_now [] = []
values_now (s ∷ older) = s.sample.values

-- how many numbers before a cycle the mimic filter looks at
abbrev pub needed : Option Mimic → ℕ
needed None = 0
needed (Some m) = 1

-- the last n numbers, and what the filter needs before them, were all taken and are good
abbrev pub is_ready : ℕ → Option Mimic → List Numbered → Bool
is_ready n mimic samples = held_for number_of_sample (n + needed mimic) good_now samples
