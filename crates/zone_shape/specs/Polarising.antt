-- What is formed of a loop for the circles of all zones.
use Rattle.std.specs.Prelude.{◌≡◌, true, pos, is_some, unwrap_or, Option}
use Rattle.relay_num.specs.declared.Cx.{Cx}
use Rattle.mho_zone.specs.declared.polarised.Polarised.{Polarised}
use Rattle.mho_zone.specs.Polarising.{IsPolarised}

-- of a loop with its polarising voltage; nothing is formed where there is none
pub record IsPolarisedBy (u i : Cx) (p : Option Cx) (formed : Polarised) : Type 0 where
  pub there : is_some p ≡ true
  pub formed_of : IsPolarised u i (unwrap_or p (record { re = pos 0; im = pos 0 })) formed
