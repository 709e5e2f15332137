use Rattle.std.proofs.Common.{◌≡◌, ◌⊎◌, sym, subst}
use Rattle.cycle_phasor.specs.Window.{IsSliding}
use Rattle.cycle_phasor.proofs.tests.slid.Goals as goal

pub run-requires-clause-n : goal.run-requires-clause-n
run-requires-clause-n g c = subst (λ n. (n ≡ 80) ⊎ (n ≡ 96)) (sym (c.in-Ok.ensures c.args.first).cycle) c.requires.n

pub run-requires-clause-state : goal.run-requires-clause-state
run-requires-clause-state g c = subst (λ n. IsSliding n c.args.first c.in-Ok.ring c.in-Ok.slider) (sym (c.in-Ok.ensures c.args.first).cycle) (c.in-Ok.ensures c.args.first)
