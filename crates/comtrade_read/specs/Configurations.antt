-- The configuration of a record, after the ASCII form of COMTRADE 1999 (IEEE C37.111-1999). That it has these channels, and
-- which names, rates and nominal frequencies there are, is this project's own.
use Rattle.std.specs.Prelude.{◌≡◌, ◌≢◌, ℕ, ◌≤◌, ◌⊎◌, List, [], ◌∷◌, ◌++◌, length, codes, decimal}
use Rattle.std.specs.List.{concat, AllByRecursion}
use Rattle.comtrade_read.specs.Numbers.{with_ends}
use Rattle.comtrade_read.specs.Moments.{Moment, IsMoment, moment_text}
use Rattle.comtrade_read.specs.Channels.{channel_lines}

-- the station's name, the nominal frequency, the samples a second and how many, and the moments of the first and of the trip
pub record Configuration : Type 0 where
  pub name : List ℕ
  pub nominal : ℕ
  pub rate : ℕ
  pub count : ℕ
  pub first : Moment
  pub trip : Moment

-- 1 to 16 printable bytes, without a blank or a comma
pub record IsName (name : List ℕ) : Type 0 where
  pub short : (1 ≤ length name) × (length name ≤ 16)
  pub printable : AllByRecursion (λ b. (33 ≤ b) × (b ≤ 126)) name
  pub no_comma : AllByRecursion (λ b. b ≢ 44) name

-- 50 or 60 Hz
abbrev pub IsNominal : ℕ → Type 0
IsNominal nominal = (nominal ≡ 50) ⊎ (nominal ≡ 60)

-- 4800 samples a second at 60 or 50 Hz, or 4000 at 50 Hz
abbrev pub IsRate : ℕ → Type 0
IsRate rate = (rate ≡ 4800) ⊎ (rate ≡ 4000)

-- up to six cycles of 96 samples, and one
abbrev pub IsCount : ℕ → Type 0
IsCount count = (1 ≤ count) × (count ≤ 577)

pub record IsConfiguration (c : Configuration) : Type 0 where
  pub name : IsName c.name
  pub nominal : IsNominal c.nominal
  pub rate : IsRate c.rate
  pub count : IsCount c.count
  pub first : IsMoment c.first
  pub trip : IsMoment c.trip

-- the station's name, its device, and the year of the standard
abbrev pub station_text : List ℕ → List ℕ
station_text name = name ++ codes ",relay,1999"

-- samples a second, and how many there are
abbrev pub samples_text : ℕ → ℕ → List ℕ
samples_text rate count = decimal rate ++ codes "," ++ decimal count

-- The lines without their ends: the station, the channels, the nominal frequency, one rate with its samples, two moments, the
-- form of the data, and a factor of 1.
abbrev pub configuration_lines : Configuration → List (List ℕ)
configuration_lines c =
    station_text c.name
    ∷ channel_lines
    ++ decimal c.nominal
    ∷ codes "1"
    ∷ samples_text c.rate c.count
    ∷ moment_text c.first
    ∷ moment_text c.trip
    ∷ codes "ASCII"
    ∷ codes "1"
    ∷ []

unfoldable pub configuration_text : Configuration → List ℕ
configuration_text c = concat (with_ends (configuration_lines c))
