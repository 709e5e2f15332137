-- The seal-in of a trip over numbered samples, the newest first, and what a trip takes of them. A trip takes each sample.
use Rattle.std.specs.Prelude.{ℕ, ◌≡◌, ◌≢◌, ◌+◌, Bool, false, List, [], ◌∷◌}
use Rattle.sample_windows.specs.Windows.{at_each}
use Rattle.sample_windows.specs.Numbered.{newest_number, Rises}
use Rattle.trip_logic.specs.Seal.{stands}
use Rattle.trip_logic.specs.Takes.{TripTake, take_of, Follows, is_on, changed, state_of}
use Rattle.trip_logic.specs.declared.TripState.{TripState}

module _ {X : Type 0} (number : X → ℕ) (operates dead : List X → Bool) where
  -- the trip at the newest sample, and its change since the sample before it
  abbrev pub state_at : ℕ → ℕ → List X → TripState
  state_at least open_run [] = changed false false
  state_at least open_run (x ∷ older) =
      changed (stands number operates dead least open_run older) (stands number operates dead least open_run (x ∷ older))

  -- what a trip takes at the newest sample
  abbrev pub trip_take : List X → TripTake
  trip_take samples = take_of (newest_number number samples) (operates samples) (dead samples)

-- The laws of a trip that takes each sample. Of no samples, no zone operates and the line isn't dead.
pub record TripsByNumber (X : Type 0) : Type 0 where
  -- whether the trip stands, and its change, are the rule's over numbers
  pub on : (number : X → ℕ) (operates dead : List X → Bool) (least open_run : ℕ) (samples : List X) →
      operates [] ≡ false → dead [] ≡ false →
      is_on least open_run (at_each (trip_take number operates dead) samples)
      ≡ stands number operates dead least open_run samples
  pub state : (number : X → ℕ) (operates dead : List X → Bool) (least open_run : ℕ) (samples : List X) →
      operates [] ≡ false → dead [] ≡ false →
      state_of least open_run (at_each (trip_take number operates dead) samples)
      ≡ state_at number operates dead least open_run samples
  -- where numbers rise, and the line is dead at no sample that follows a gap, each take follows those before it
  pub follows : (number : X → ℕ) (operates dead : List X → Bool) →
      ((x y : X) (older : List X) → Rises number (x ∷ y ∷ older) → number x ≢ number y + 1 → dead (x ∷ y ∷ older) ≡ false) →
      (x : X) (older : List X) → Rises number (x ∷ older) →
      Follows (trip_take number operates dead (x ∷ older)) (at_each (trip_take number operates dead) older)
