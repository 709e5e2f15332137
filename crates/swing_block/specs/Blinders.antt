-- The blinders of a power swing (Phadke and Thorp, Computer Relaying for Power Systems): two rectangles about the
-- origin of the impedance plane, in which the apparent impedance of the positive sequence moves.
use Rattle.std.specs.Prelude.{ℤ, pos, ◌*◌, ◌*ℤ◌, Bool, ◌&&◌, if◌then◌else◌}
use Rattle.std.specs.Int.RustNames.{int_lt, int_le}
use Rattle.relay_num.specs.declared.Cx.{Cx}
use Rattle.relay_num.specs.Numbers.{norm}
use Rattle.relay_settings.specs.declared.types.SwingSettings.{SwingSettings}
use Rattle.apparent_impedance.specs.Impedance.{resistance, reactance}
use Rattle.swing_block.specs.declared.blinders.SwingPlace.{SwingPlace}
use Rattle.swing_block.specs.declared.blinders.SwingPlace.TheVariants.{Outside, Between, Inner}

-- The impedance of the voltage u and the current i is within the blinder of r and x; without current there is none.
abbrev pub is_within_blinder : ℤ → ℤ → Cx → Cx → Bool
is_within_blinder r x u i =
    int_lt (pos 0) (norm i) && int_le (resistance u i) (r *ℤ norm i) && int_le (reactance u i) (x *ℤ norm i)

abbrev pub place_of : SwingSettings → Cx → Cx → SwingPlace
place_of s u i =
    if is_within_blinder s.inner_r s.inner_x u i then Inner
    else if is_within_blinder s.outer_r s.outer_x u i then Between
    else Outside

-- 3I2 is at least its share, in thousandths, of 3I1
abbrev pub is_unbalanced : SwingSettings → Cx → Cx → Bool
is_unbalanced s i1 i2 = int_le (pos (s.i2_share * s.i2_share) *ℤ norm i1) (pos 1000000 *ℤ norm i2)
