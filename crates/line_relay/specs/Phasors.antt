-- The full-cycle Fourier phasor of each channel at the newest sample, formed anew from the samples of the last cycle
-- (Phadke and Thorp, Computer Relaying for Power Systems).
use Rattle.std.specs.Prelude.{ℕ, zero, suc, ◌-◌, ◌^◌, if◌then◌else◌, List, [], ◌∷◌, Option, Some, None, ℤ, pos, ◌+ℤ◌, ◌*ℤ◌}
use Rattle.sample_windows.specs.Numbered.{newest_number, up_to}
use Rattle.relay_num.specs.Numbers.{floor_div}
use Rattle.relay_num.specs.WeightedSums.{lane, real_weight, imaginary_weight}
use Rattle.relay_num.specs.declared.Cx.{Cx}
use Rattle.relay_settings.specs.declared.types.Mimic.{Mimic}
use Rattle.mimic_filter.specs.Mimic.{filtered}
use Rattle.line_relay.specs.LineSamples.{Numbered, number_of_sample, values_now, is_ready}

-- the value of a channel at the sample with the number j
abbrev pub value_at : ℕ → List Numbered → ℕ → ℤ
value_at channel samples j = lane channel (values_now (up_to number_of_sample j samples))

-- the filtered value there; without a mimic filter it is the value
abbrev pub filtered_at : Option Mimic → ℕ → List Numbered → ℕ → ℤ
filtered_at None channel samples j = value_at channel samples j
filtered_at (Some m) channel samples j = filtered m.a m.b (value_at channel samples j) (value_at channel samples (j - 1))

-- f 0 + f 1 + .. + f (n - 1)
unfoldable pub sum_below : ℕ → (ℕ → ℤ) → ℤ
sum_below zero f = pos 0
sum_below (suc n) f = f 0 +ℤ sum_below n (λ k. f (suc k))

-- the sum of x at j times the weight at j, over the n numbers j up to the newest
abbrev pub cycle_sum : (ℕ → ℤ) → ℕ → (ℕ → ℤ) → ℕ → ℤ
cycle_sum weight n x newest = sum_below n (λ k. x (newest - k) *ℤ weight (newest - k))

abbrev pub eight : {X : Type 0} → (ℕ → X) → List X
eight f = f 0 ∷ f 1 ∷ f 2 ∷ f 3 ∷ f 4 ∷ f 5 ∷ f 6 ∷ f 7 ∷ []

module _ (n : ℕ) (mimic : Option Mimic) where
  -- The phasor of a channel. The table's place is the sample's own number, not its place in the window.
  abbrev pub phasor_of : List Numbered → ℕ → Cx
  phasor_of samples channel =
      let sum : (ℕ → ℤ) → ℤ = λ weight. cycle_sum weight n (filtered_at mimic channel samples) (newest_number number_of_sample samples) in
      record { re = floor_div (sum (real_weight n)) (2 ^ 19); im = floor_div (sum (imaginary_weight n)) (2 ^ 19) }

  -- the phasors of IA, IB, IC, IN, UA, UB, UC and UN, exactly where the newest sample is ready
  abbrev pub phasors_of : List Numbered → Option (List Cx)
  phasors_of samples = if is_ready n mimic samples then Some (eight (phasor_of samples)) else None
