-- The data of a record, after the ASCII form of COMTRADE 1999 (IEEE C37.111-1999): one line a sample, and the end of the file.
-- The ranges are this project's own.
use Rattle.std.specs.Prelude.{◌≡◌, ℕ, ◌+◌, ◌≤◌, Bool, true, false, List, [], ◌∷◌, ◌++◌, length, codes, decimal, ℤ}
use Rattle.std.specs.Fmt.{signed_decimal}
use Rattle.jiff_core.specs.Calendar.{IsWithin}
use Rattle.comtrade_read.specs.Numbers.{line_end}
use Rattle.comtrade_read.specs.declared.data.PairSample.{PairSample}

-- so many values, each from -268435455 to 268435455
abbrev pub AreValues : List ℤ → Type 0
AreValues [] = Unit {0}
AreValues (value ∷ rest) = IsWithin 268435455 value × AreValues rest

-- six values, at a time of at most 144000 microseconds after the first
pub record IsSample (s : PairSample) : Type 0 where
  pub six : length s.values ≡ 6
  pub values : AreValues s.values
  pub micros : s.micros ≤ 144000

-- the first is at this time or later, and each is later than the one before
abbrev pub AreSamples : ℕ → List PairSample → Type 0
AreSamples least [] = Unit {0}
AreSamples least (s ∷ rest) = (least ≤ s.micros) × IsSample s × AreSamples (s.micros + 1) rest

-- there is a first sample, at time 0
abbrev pub BeginsAtZero : List PairSample → Type 0
BeginsAtZero [] = ⊥
BeginsAtZero (s ∷ rest) = s.micros ≡ 0

-- decimal digits, with one `-` before them exactly where the value is below 0, and a comma
abbrev pub value_text : ℤ → List ℕ
value_text value = signed_decimal value ++ codes ","

abbrev pub values_text : List ℤ → List ℕ
values_text [] = []
values_text (value ∷ rest) = value_text value ++ values_text rest

abbrev pub flag_text : Bool → List ℕ
flag_text true = codes "1"
flag_text false = codes "0"

-- the line of the i-th sample
abbrev pub row_text : ℕ → PairSample → List ℕ
row_text i s =
    decimal i ++ codes "," ++ decimal s.micros ++ codes "," ++ values_text s.values
    ++ flag_text s.good ++ codes "," ++ flag_text s.trip ++ line_end

-- the lines of these samples, from the i-th on
abbrev pub rows_text : ℕ → List PairSample → List ℕ
rows_text i [] = []
rows_text i (s ∷ rest) = row_text i s ++ rows_text (i + 1) rest

-- behind the last line stands the end of the file
abbrev pub data_text : List PairSample → List ℕ
data_text samples = rows_text 1 samples ++ 26 ∷ []
