-- Windows over the numbers of a list of numbered samples, the newest first. A number may be missing.
use Rattle.std.specs.Prelude.{ℕ, suc, ◌+◌, ◌-◌, ◌<◌, Bool, ◌&&◌, nat_le, ◌==◌, if◌then◌else◌, List, [], ◌∷◌, take}
use Rattle.sample_windows.specs.Windows.{at_each}
use Rattle.sample_windows.specs.Below.{all_below}

module _ {X : Type 0} (number : X → ℕ) where
  -- the number of the newest sample, or 0
  abbrev pub newest_number : List X → ℕ
  newest_number [] = 0
  newest_number (x ∷ older) = number x

  -- the samples up to the one with this number; none where no sample has it
  unfoldable pub up_to : ℕ → List X → List X
  up_to n [] = []
  up_to n (x ∷ older) = if number x == n then x ∷ older else up_to n older

  -- the numbers rise
  abbrev pub Rises : List X → Type 0
  Rises [] = Unit {0}
  Rises (x ∷ []) = Unit {0}
  Rises (x ∷ y ∷ older) = (number y < number x) × Rises (y ∷ older)

  -- whether a fact of samples up to one of them holds at each of the last k numbers
  unfoldable pub held_for : ℕ → (List X → Bool) → List X → Bool
  held_for k fact samples =
      nat_le k (newest_number samples + 1) && all_below k (λ i. fact (up_to (newest_number samples - i) samples))

  -- how many numbers in a row, ending at the newest, have the fact
  unfoldable pub run_of : (List X → Bool) → List X → ℕ
  run_of fact [] = 0
  run_of fact (x ∷ older) =
      if fact (x ∷ older) then (if number x == newest_number older + 1 then suc (run_of fact older) else 1) else 0

  -- what is said at each sample of the run of the fact that ends at the newest
  abbrev pub of_run : {Y : Type 0} → (List X → Bool) → (List X → Y) → List X → List Y
  of_run fact said samples = take (run_of fact samples) (at_each said samples)
