-- What the record of a trip says.
use Rattle.std.specs.Prelude.{ℕ, List, map}
use Rattle.comtrade_read.specs.declared.data.PairSample.{PairSample}
use Rattle.comtrade_write.specs.declared.covered.Recorded.{Recorded}
use Rattle.comtrade_write.specs.DataTexts.{said_of}
use Rattle.comtrade_write.specs.Recordings.{first_number}

-- the covered samples in order, each as its line says it
abbrev pub all_said : ℕ → List Recorded → List PairSample
all_said rate rs = map (said_of rate (first_number rs)) rs
