-- A ring of samples and the full-cycle Fourier sums that slide along it (Phadke and Thorp, Computer Relaying for Power Systems).
use Rattle.std.specs.Prelude.{◌≡◌, ◌≤◌, ◌-◌, ℕ, Bool, if◌then◌else◌, List, [], ◌∷◌, ◌++◌, ℤ, Option, Some, None, length, All}
use Rattle.circular_buffer.specs.Buffer.{Buffer, keep_last}
use Rattle.relay_num.specs.Bounds.{AllBelow, value_bound}
use Rattle.relay_num.specs.WeightedSums.{real_weight, imaginary_weight}
use Rattle.cycle_phasor.specs.declared.Slider.{Slider}
use Rattle.cycle_phasor.specs.Sliding.{AreSumsOf}

-- the values of one sample
pub record IsSample (values : List ℤ) : Type 0 where
  pub eight : length values ≡ 8
  pub small : AllBelow values value_bound

-- The ring holds the newest samples of a run, at most n of them, before the sample with the number `next`,
-- and the slider their sums, each with the table at the sample's own number.
pub record IsSliding (n next : ℕ) (ring : Buffer (List ℤ)) (slider : Slider) : Type 0 where
  pub cycle : slider.n ≡ n
  pub capacity : ring.capacity ≡ n
  pub few : length ring.items ≤ n
  pub count : slider.count ≡ length ring.items
  pub started : length ring.items ≤ next
  pub samples : All IsSample ring.items
  pub re : AreSumsOf slider.re (real_weight n) (next - length ring.items) ring.items
  pub im : AreSumsOf slider.im (imaginary_weight n) (next - length ring.items) ring.items

-- What the window of a run holds after one more number, at most n samples, the oldest first: these values after those
-- before, where the number follows, or these alone; and nothing where there are none.
abbrev pub window_with : ℕ → Bool → Option (List ℤ) → List (List ℤ) → List (List ℤ)
window_with n follows None items = []
window_with n follows (Some values) items = keep_last n ((if follows then items else []) ++ values ∷ [])
