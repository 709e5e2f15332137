-- The number of a sample that is taken.
use Rattle.std.specs.Prelude.{ℕ, Option, Some, None}
use Rattle.sample_stream.specs.declared.numberer.Taken.{Taken}
use Rattle.sample_stream.specs.declared.numberer.Taken.TheVariants.{First, Next, Jump, Repeat, Late, Wild}

-- the number that an outcome gives its sample
abbrev pub number_of : Taken → Option ℕ
number_of (First number) = Some number
number_of (Next number) = Some number
number_of (Jump number missing) = Some number
number_of Repeat = None
number_of (Late b) = None
number_of Wild = None
