-- The sizes that the relay's numbers stay below, by name.
use Rattle.std.specs.Prelude.{ℕ, ◌^◌, ◌+◌, ◌<◌, ◌==◌, Bool, ◌||◌, List, ℤ, All}
use Rattle.std.specs.Int.RustNames.{unsigned_abs}

-- a sample's value, raw and filtered: at most 2^28 - 1 in size
abbrev pub value_bound : ℕ
value_bound = 2 ^ 28

-- the sums of a cycle
abbrev pub sum_bound : ℕ
sum_bound = 2 ^ 49

-- what a full-cycle sum is divided by, rounded down, to make a phasor
abbrev pub phasor_divisor : ℕ
phasor_divisor = 2 ^ 19

-- the parts of a phasor, which are at most 2^30 in size
abbrev pub phasor_bound : ℕ
phasor_bound = 2 ^ 30 + 1

-- the parts of three times a symmetrical component
abbrev pub sequence_bound : ℕ
sequence_bound = 2 ^ 32

-- the parts of the loops' voltages, which are at most 2^31 in size, of their currents, and of their polarising voltages
abbrev pub loop_voltage_bound : ℕ
loop_voltage_bound = 2 ^ 31 + 1

abbrev pub loop_current_bound : ℕ
loop_current_bound = 2 ^ 45

abbrev pub polarising_bound : ℕ
polarising_bound = 2 ^ 34

-- the parts of a reach and of the line's impedance, at most a million milliohms
abbrev pub reach_bound : ℕ
reach_bound = 2 ^ 20

-- whether a cycle may have so many samples
abbrev pub is_cycle : ℕ → Bool
is_cycle n = n == 80 || n == 96

-- each of the numbers is below `bound` in size
abbrev pub AllBelow : List ℤ → ℕ → Type 0
AllBelow xs bound = All (λ x. unsigned_abs x < bound) xs
