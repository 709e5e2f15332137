-- The mimic filter of a fault current's decaying offset (Phadke and Thorp, Computer Relaying for Power Systems).
use Rattle.std.specs.Prelude.{List, ℤ, pos, neg_ℤ, ◌-ℤ◌, ◌*ℤ◌}
use Rattle.std.specs.Int.{int_min, int_max}
use Rattle.std.specs.Simd.Lanes.{zip2}
use Rattle.relay_num.specs.Numbers.{floor_div}

-- one channel: (a * now - b * before) / 1024 rounded down, limited to what a sample can hold
abbrev pub filtered : ℤ → ℤ → ℤ → ℤ → ℤ
filtered a b now before = int_max (int_min (floor_div (now *ℤ a -ℤ before *ℤ b) 1024) (pos 268435455)) (neg_ℤ (pos 268435455))

-- each channel of a sample
abbrev pub filtered_lanes : ℤ → ℤ → List ℤ → List ℤ → List ℤ
filtered_lanes a b now before = zip2 (filtered a b) now before
