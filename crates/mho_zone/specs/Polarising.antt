-- What a loop is against its polarising voltage, as the code keeps it for all circles.
use Rattle.std.specs.Prelude.{◌≡◌}
use Rattle.relay_num.specs.declared.Cx.{Cx}
use Rattle.relay_num.specs.Numbers.{value_of, product, scaled, conjugate}
use Rattle.mho_zone.specs.declared.polarised.Polarised.{Polarised}

-- formed of voltage u, current i and polarising voltage p: P conj(I), and Re(10^7 U conj(P))
pub record IsPolarised (u i p : Cx) (formed : Polarised) : Type 0 where
  pub power : value_of formed.power ≡ product p (conjugate i)
  pub along : formed.along ≡ (product (scaled 10000000 u) (conjugate p)).re
