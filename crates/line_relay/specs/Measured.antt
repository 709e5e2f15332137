-- What is formed of the phasors IA, IB, IC, IN, UA, UB, UC and UN of a ready sample: the phases, and three times their
-- symmetrical components.
use Rattle.std.specs.Prelude.{List, [], ◌∷◌}
use Rattle.relay_num.specs.declared.Cx.{Cx}
use Rattle.loop_impedance.specs.Loops.{item}
use Rattle.sequence_parts.specs.Sequences.{sequence_of}
use Rattle.line_relay.specs.declared.measured.Measured.{Measured}

unfoldable pub measured : List Cx → Measured
measured phasors = record {
  voltages = item 4 phasors ∷ item 5 phasors ∷ item 6 phasors ∷ [];
  currents = item 0 phasors ∷ item 1 phasors ∷ item 2 phasors ∷ [];
  voltage = sequence_of (item 4 phasors) (item 5 phasors) (item 6 phasors);
  current = sequence_of (item 0 phasors) (item 1 phasors) (item 2 phasors);
}
