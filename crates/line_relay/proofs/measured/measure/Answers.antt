use Rattle.std.proofs.Common.{ap₂, List, [], ◌∷◌}
use Rattle.relay_num.specs.declared.Cx.{Cx}
use Rattle.sequence_parts.specs.declared.Sequence.{Sequence}
use Rattle.loop_impedance.specs.Loops.{item}
use Rattle.line_relay.specs.declared.measured.Measured.{Measured}
use Rattle.line_relay.specs.Measured.{measured}
use Rattle.line_relay.proofs.measured.measure.Goals as goal

with_parts : List Cx → Sequence → Sequence → Measured
with_parts phasors voltage current = record {
  voltages = item 4 phasors ∷ item 5 phasors ∷ item 6 phasors ∷ [];
  currents = item 0 phasors ∷ item 1 phasors ∷ item 2 phasors ∷ [];
  voltage = voltage;
  current = current;
}

pub returns-clause-value : goal.returns-clause-value
unfolding measured with_parts
returns-clause-value c = ap₂ (with_parts c.args.phasors.now) c.parts.ensures.parts c.parts-2.ensures.parts
