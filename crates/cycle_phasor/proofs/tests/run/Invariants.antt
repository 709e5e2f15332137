use Rattle.std.proofs.Common.{◌≡◌}
use Rattle.cycle_phasor.specs.Window.{IsSliding}
use Rattle.cycle_phasor.proofs.tests.run.Given as goal

abbrev pub invariant-loop-next : goal.invariant-loop-next
invariant-loop-next g l = record {
  cycle : l.slider.n ≡ l.fn.slider.n;
  state : IsSliding l.fn.slider.n l.next l.ring l.slider;
}
