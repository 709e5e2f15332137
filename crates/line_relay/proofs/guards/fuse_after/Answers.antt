use Rattle.std.proofs.Common.{not, ap₂, subst, refl, ◌∷◌}
use Rattle.supervise.specs.Fusing.{FuseTake, take_of, counts_as_blown}
use Rattle.supervise.specs.KeptFuse.{StandsFor}
use Rattle.line_relay.proofs.guards.fuse_after.Goals as goal

pub returns-in-Some-clause-after : goal.returns-in-Some-clause-after
returns-in-Some-clause-after c rate takes stands =
    rw (c.in-Some.is, ← c.measure-m.ensures.value) (subst (λ (t : FuseTake). StandsFor c.args.s.now rate (t ∷ takes) c.take.new.self)
    (ap₂ (λ voltage current. take_of voltage (not current)) c.at_least_rms-has_voltage.ensures c.at_least_rms-has_current.ensures)
    (c.take.ensures.after c.args.s.now rate takes stands))

pub returns-in-None-clause-blows : goal.returns-in-None-clause-blows
unfolding counts_as_blown
returns-in-None-clause-blows c rate takes stands = rw c.in-None.is refl
