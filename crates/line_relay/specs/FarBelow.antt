-- Phase currents so small that neither one of them nor a difference of two comes to a threshold, told by their parts alone.
use Rattle.std.specs.Prelude.{ℕ, ◌*◌, ◌/◌, nat_lt, Bool, if◌then◌else◌, List, Option, Some, None}
use Rattle.std.specs.Int.RustNames.{unsigned_abs}
use Rattle.relay_num.specs.declared.Cx.{Cx}
use Rattle.loop_impedance.specs.Loops.{item}
use Rattle.line_relay.specs.declared.measured.Measured.{Measured}

abbrev pub greater : ℕ → ℕ → ℕ
greater a b = if nat_lt a b then b else a

-- the size of the greater part
abbrev pub size_of : Cx → ℕ
size_of p = greater (unsigned_abs p.re) (unsigned_abs p.im)

-- of three phase currents
abbrev pub greatest_part : List Cx → ℕ
greatest_part i = greater (size_of (item 0 i)) (greater (size_of (item 1 i)) (size_of (item 2 i)))

-- of what is measured; 0 where the sample isn't ready
abbrev pub greatest_by : Option Measured → ℕ
greatest_by None = 0
greatest_by (Some m) = greatest_part m.currents

-- Parts below n * least / 129 make no difference whose size is that of least counts rms.
abbrev pub is_far_below : ℕ → ℕ → ℕ → Bool
is_far_below greatest n least = nat_lt greatest (n * least / 129)
