-- The quadrilateral characteristic of a distance relay (Phadke and Thorp, Computer Relaying for Power Systems).
-- An impedance is compared by its four sides with no division: each side times the square of the loop current's size.
-- The loop's voltage u is in counts of 10 mV, its current i in thousandths of 1 mA, the sides in milliohms.
use Rattle.std.specs.Prelude.{pos, neg_ℤ, ◌+ℤ◌, ◌-ℤ◌, ◌*ℤ◌, Bool, ◌&&◌}
use Rattle.std.specs.Int.RustNames.{int_lt, int_le}
use Rattle.relay_num.specs.declared.Cx.{Cx}
use Rattle.relay_num.specs.Numbers.{norm}
use Rattle.relay_settings.specs.declared.types.QuadSettings.{QuadSettings}
use Rattle.apparent_impedance.specs.Impedance.{apparent, loop_scale}

-- The reactance is at most the reach, less the tilt for each ohm of resistance.
abbrev pub is_below_top : QuadSettings → Cx → Cx → Bool
is_below_top q u i = int_le (pos 1000 *ℤ (apparent loop_scale u i).im +ℤ q.tilt *ℤ (apparent loop_scale u i).re) (pos 1000 *ℤ q.reach_x *ℤ norm i)

-- The resistance, less the lean of the sides for each ohm of reactance, is at least the reach to the left,
abbrev pub is_right_of_left_side : QuadSettings → Cx → Cx → Bool
is_right_of_left_side q u i = int_le (neg_ℤ (pos 1000) *ℤ q.reach_r *ℤ norm i) (pos 1000 *ℤ (apparent loop_scale u i).re -ℤ q.slope *ℤ (apparent loop_scale u i).im)

-- and at most the reach to the right.
abbrev pub is_left_of_right_side : QuadSettings → Cx → Cx → Bool
is_left_of_right_side q u i = int_le (pos 1000 *ℤ (apparent loop_scale u i).re -ℤ q.slope *ℤ (apparent loop_scale u i).im) (pos 1000 *ℤ q.reach_r *ℤ norm i)

-- The reactance is at least the reach behind the relay.
abbrev pub is_above_bottom : QuadSettings → Cx → Cx → Bool
is_above_bottom q u i = int_le (neg_ℤ q.back_x *ℤ norm i) (apparent loop_scale u i).im

-- A loop with current is inside where it is inside each side; one that is on a side is inside.
abbrev pub is_inside_quad : QuadSettings → Cx → Cx → Bool
is_inside_quad q u i =
    int_lt (pos 0) (norm i)
    && is_below_top q u i
    && is_right_of_left_side q u i
    && is_left_of_right_side q u i
    && is_above_bottom q u i
