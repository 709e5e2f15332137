-- Load encroachment (Phadke and Thorp, Computer Relaying for Power Systems): the part of the impedance plane in which
-- the apparent impedance of the positive sequence is that of load.
use Rattle.std.specs.Prelude.{pos, ◌*ℤ◌, Bool, ◌&&◌}
use Rattle.std.specs.Int.RustNames.{int_lt, int_le}
use Rattle.relay_num.specs.declared.Cx.{Cx}
use Rattle.relay_num.specs.Numbers.{norm}
use Rattle.relay_settings.specs.declared.types.LoadSettings.{LoadSettings}
use Rattle.apparent_impedance.specs.Impedance.{resistance, reactance}

-- There is a current, the resistance is at least r, and the reactance at most the slope, in thousandths, times it.
abbrev pub is_load : LoadSettings → Cx → Cx → Bool
is_load s u i =
    int_lt (pos 0) (norm i)
    && int_le (s.r *ℤ norm i) (resistance u i)
    && int_le (pos 1000 *ℤ reactance u i) (s.slope *ℤ resistance u i)
