-- The trip over what it takes, the newest first. One take is one sample: its number, whether a zone that trips operates
-- at it, and whether the line is dead at it.
use Rattle.std.specs.Prelude.{ℕ, ◌≡◌, ◌≢◌, ◌+◌, ◌<◌, Bool, false, not, ◌&&◌, List, [], ◌∷◌}
use Rattle.trip_logic.specs.Seal.{stands}
use Rattle.trip_logic.specs.declared.TripState.{TripState}

pub record TripTake : Type 0 where
  pub number : ℕ
  pub operated : Bool
  pub dead : Bool

abbrev pub take_of : ℕ → Bool → Bool → TripTake
take_of number operated dead = record { number = number; operated = operated; dead = dead }

abbrev pub number_of : TripTake → ℕ
number_of take = take.number

-- the newest take may follow the ones before it: numbers rise, and the line isn't dead after a gap
abbrev pub Follows : TripTake → List TripTake → Type 0
Follows newest [] = Unit {0}
Follows newest (before ∷ older) =
    (before.number < newest.number) × (newest.number ≢ before.number + 1 → newest.dead ≡ false)

-- of the newest take
abbrev pub operates_now : List TripTake → Bool
operates_now [] = false
operates_now (t ∷ older) = t.operated

abbrev pub dead_now : List TripTake → Bool
dead_now [] = false
dead_now (t ∷ older) = t.dead

-- whether the trip stands after these takes
abbrev pub is_on : ℕ → ℕ → List TripTake → Bool
is_on least open_run takes = stands number_of operates_now dead_now least open_run takes

-- a trip now, and its change
abbrev pub changed : Bool → Bool → TripState
changed before now = record { on = now; rose = now && not before; fell = before && not now }

-- the trip at the newest take, and its change since the take before it
abbrev pub state_of : ℕ → ℕ → List TripTake → TripState
state_of least open_run [] = changed false false
state_of least open_run (t ∷ older) = changed (is_on least open_run older) (is_on least open_run (t ∷ older))
