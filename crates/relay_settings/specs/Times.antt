-- Times of the settings in samples.
use Rattle.std.specs.Prelude.{ℕ, ◌+◌, ◌*◌, ◌/◌}

-- ms milliseconds in samples at this rate, rounded up
abbrev pub samples : ℕ → ℕ → ℕ
samples rate ms = (ms * rate + 999) / 1000
