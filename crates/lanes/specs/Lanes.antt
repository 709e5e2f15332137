-- Eight whole numbers as a list, and what is done to each of them at once.
use Rattle.std.specs.Prelude.{ℕ, List, ℤ, ◌+ℤ◌, ◌-ℤ◌, ◌*ℤ◌, map}
use Rattle.std.specs.Int.{int_max, int_min}
use Rattle.std.specs.Simd.Lanes.{zip2}
use Rattle.relay_num.specs.Numbers.{floor_div}

abbrev pub sums : List ℤ → List ℤ → List ℤ
sums = zip2 (λ x y. x +ℤ y)

abbrev pub differences : List ℤ → List ℤ → List ℤ
differences = zip2 (λ x y. x -ℤ y)

abbrev pub multiples : List ℤ → ℤ → List ℤ
multiples xs k = map (λ x. x *ℤ k) xs

-- each lane divided by m, rounded down
abbrev pub quotients : List ℤ → ℕ → List ℤ
quotients xs m = map (λ x. floor_div x m) xs

-- each lane, or `most` where it is greater
abbrev pub at_most : ℤ → List ℤ → List ℤ
at_most most = map (λ x. int_min x most)

-- each lane, or `least` where it is less
abbrev pub at_least : ℤ → List ℤ → List ℤ
at_least least = map (λ x. int_max x least)
