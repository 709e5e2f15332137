-- The phase currents of a sample that may not be ready, each no larger than a phasor.
use Rattle.std.specs.Prelude.{List, Option}
use Rattle.std.specs.Option.{ForSome}
use Rattle.relay_num.specs.declared.Cx.{Cx}
use Rattle.relay_num.specs.Bounds.{phasor_bound}
use Rattle.loop_impedance.specs.Loops.{ArePhasesBelow}

abbrev pub AreCurrents : Option (List Cx) → Type 0
AreCurrents currents = ForSome currents (λ i. ArePhasesBelow i phasor_bound)
