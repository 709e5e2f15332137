-- The mho characteristic: the circle that has a zone's reach as its diameter (Phadke and Thorp, Computer Relaying for Power Systems).
use Rattle.std.specs.Prelude.{pos, Bool}
use Rattle.std.specs.Int.RustNames.{int_lt}
use Rattle.relay_num.specs.declared.Cx.{Cx}
use Rattle.relay_num.specs.Numbers.{product, difference, scaled, conjugate}

-- Reach z in milliohms, voltage u and polarising voltage p in 10 mV, current i in mA times 1000:
-- what u falls short of z times i is less than a right angle away from p.
abbrev pub is_inside_mho : Cx → Cx → Cx → Cx → Bool
is_inside_mho z u i p = int_lt (pos 0) (product (difference (product z i) (scaled 10000000 u)) (conjugate p)).re
