-- The apparent impedance of a distance relay, U / I (Phadke and Thorp, Computer Relaying for Power Systems).
-- It is U conj(I) over the square of the current's size; a test multiplies by that square and never divides.
use Rattle.std.specs.Prelude.{ℕ, ℤ, pos}
use Rattle.std.specs.Int.RustNames.{unsigned_abs}
use Rattle.relay_num.specs.declared.Cx.{Cx}
use Rattle.relay_num.specs.Numbers.{product, scaled, conjugate}

-- U / I times the scale, times |I|^2
abbrev pub apparent : ℕ → Cx → Cx → Cx
apparent scale u i = product (scaled scale u) (conjugate i)

-- the scale that gives milliohms: of a voltage in counts of 10 mV and a current in counts of 1 mA,
abbrev pub phasor_scale : ℕ
phasor_scale = 10000

-- and of a current in thousandths of that, as a loop's is
abbrev pub loop_scale : ℕ
loop_scale = 10000000

-- how great the resistance is, whatever its sign
abbrev pub resistance : Cx → Cx → ℤ
resistance u i = pos (unsigned_abs (apparent phasor_scale u i).re)

-- how great the reactance is
abbrev pub reactance : Cx → Cx → ℤ
reactance u i = pos (unsigned_abs (apparent phasor_scale u i).im)
