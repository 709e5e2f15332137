-- The data of a record, line by line, and what each line says. How a line is spelled is said by the grammar of comtrade_read.
use Rattle.std.specs.Prelude.{ℕ, ◌+◌, ◌-◌, ◌*◌, ◌/◌, ◌^◌, List, [], ◌∷◌, ◌++◌, slice_index_or, ℤ, pos}
use Rattle.sample_stream.specs.declared.sample.Sample.{Sample}
use Rattle.comtrade_read.specs.declared.data.PairSample.{PairSample}
use Rattle.comtrade_read.specs.Rows.{row_text}
use Rattle.comtrade_write.specs.declared.covered.Recorded.{Recorded}

-- the time of a sample after the first, in whole microseconds, rounded down
abbrev pub micros_of : ℕ → ℕ → ℕ → ℕ
micros_of rate first number = (number - first) * 10 ^ 6 / rate

-- IA, IB, IC, UA, UB and UC
abbrev pub six_of : Sample → List ℤ
six_of sample =
    let lane : ℕ → ℤ = λ k. slice_index_or sample.values k (pos 0) in
    lane 0 ∷ lane 1 ∷ lane 2 ∷ lane 4 ∷ lane 5 ∷ lane 6 ∷ []

-- what the line of a sample says, where the first has this number: its time after the first, its six values, whether it is good
-- and whether the trip stands
abbrev pub said_of : ℕ → ℕ → Recorded → PairSample
said_of rate first r = record { micros = micros_of rate first r.number; values = six_of r.sample; good = r.sample.good; trip = r.trip }

-- the line of the i-th sample
unfoldable pub data_text : ℕ → ℕ → ℕ → Recorded → List ℕ
data_text rate first i r = row_text i (said_of rate first r)

-- behind the last line stands the end of the file
abbrev pub file_end : List Recorded → List ℕ
file_end [] = 26 ∷ []
file_end (r ∷ rest) = []

-- the lines of these samples in order, from the i-th on
abbrev pub lines_from : ℕ → ℕ → ℕ → List Recorded → List (List ℕ)
lines_from rate first i [] = []
lines_from rate first i (r ∷ rest) = (data_text rate first i r ++ file_end rest) ∷ lines_from rate first (i + 1) rest

abbrev pub data_lines : ℕ → ℕ → List Recorded → List (List ℕ)
data_lines rate first rs = lines_from rate first 1 rs
