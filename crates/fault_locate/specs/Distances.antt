-- The distance to a fault (ANSI 21FL), in thousandths of the line, by a loop's voltage u in counts of 10 mV and its current
-- i in thousandths of 1 mA, so that 10^7 * u / i is in milliohms. Both formulas are this project's own.
use Rattle.std.specs.Prelude.{Option, ℤ, pos, ◌*ℤ◌}
use Rattle.relay_num.specs.declared.Cx.{Cx}
use Rattle.relay_num.specs.Numbers.{product, conjugate, difference, scaled, norm}
use Rattle.fault_locate.specs.Quotients.{quotient_of}

-- the imaginary part of a times the conjugate of b
abbrev pub across : Cx → Cx → ℤ
across a b = (product a (conjugate b)).im

-- By the reactance method: the reactance of u / i as a share of the line's, which is at least 1. There is none exactly
-- where there is no current.
abbrev pub reactance_distance : Cx → Cx → ℤ → Option ℤ
reactance_distance u i line_x = quotient_of (pos 1000 *ℤ across (scaled 10000000 u) i) (line_x *ℤ norm i)

-- By the method of T. Takagi and others (1982): the current before the fault is taken off, and so the fault's resistance
-- drops out where the current through it has the angle of what is left. There is none where the divisor is 0.
abbrev pub takagi_distance : Cx → Cx → Cx → Cx → Option ℤ
takagi_distance u i before line =
    quotient_of (pos 1000 *ℤ across (scaled 10000000 u) (difference i before)) (across (product line i) (difference i before))
