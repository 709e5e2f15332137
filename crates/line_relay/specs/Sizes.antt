-- How large what is measured can be.
use Rattle.std.specs.Prelude.{◌^◌, ◌+◌}
use Rattle.relay_num.specs.Numbers.{IsBelow}
use Rattle.loop_impedance.specs.Loops.{ArePhasesBelow}
use Rattle.sequence_parts.specs.declared.Sequence.{Sequence}
use Rattle.line_relay.specs.declared.measured.Measured.{Measured}

pub record AreParts (s : Sequence) : Type 0 where
  pub zero : IsBelow s.zero (2 ^ 32)
  pub plus : IsBelow s.plus (2 ^ 32)
  pub minus : IsBelow s.minus (2 ^ 32)

pub record IsMeasured (m : Measured) : Type 0 where
  pub voltages : ArePhasesBelow m.voltages (2 ^ 30 + 1)
  pub currents : ArePhasesBelow m.currents (2 ^ 30 + 1)
  pub voltage : AreParts m.voltage
  pub current : AreParts m.current
