-- What a slide does to the Fourier sums of eight lanes, and the phasors that they give.
use Rattle.std.specs.Prelude.{◌≡◌, ◌<◌, ◌^◌, ℕ, List, ℤ, pos, Option, Some, None, replicate, map}
use Rattle.relay_num.specs.WeightedSums.{weighted_sum, lane}
use Rattle.std.specs.Simd.Lanes.{zip2}
use Rattle.relay_num.specs.Numbers.{floor_div}
use Rattle.relay_num.specs.declared.Cx.{Cx}
use Rattle.lanes.specs.Lanes.{sums, differences, multiples}

-- the values that leave the window, 0 while it fills
abbrev pub values_left : Option (List ℤ) → List ℤ
values_left None = replicate 8 (pos 0)
values_left (Some values) = values

-- the sums after the values `new` came in and `left` went, at this weight
abbrev pub slid : List ℤ → ℤ → List ℤ → List ℤ → List ℤ
slid totals weight new left = sums totals (multiples (differences new left) weight)

-- The totals are, lane by lane, the weighted sums of the values in a window. The first of them have the number `first`.
pub record AreSumsOf (totals : List ℤ) (weight : ℕ → ℤ) (first : ℕ) (window : List (List ℤ)) : Type 0 where
  pub lanes : (k : ℕ) → k < 8 → lane k totals ≡ weighted_sum weight first (map (lane k) window)

-- the phasor of each lane of the sums
abbrev pub floored : List ℤ → List ℤ → List Cx
floored re im = zip2 (λ x y. record { re = floor_div x (2 ^ 19); im = floor_div y (2 ^ 19) }) re im
