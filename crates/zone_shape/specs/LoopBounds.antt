-- What a zone may be asked of.
use Rattle.std.specs.Prelude.{Option}
use Rattle.std.specs.Option.{ForSome}
use Rattle.relay_num.specs.declared.Cx.{Cx}
use Rattle.relay_num.specs.Bounds.{loop_voltage_bound, loop_current_bound, polarising_bound}
use Rattle.relay_num.specs.Numbers.{IsBelow}

-- a loop of voltage u, current i and polarising voltage p, where there is one, is within the bounds of each
pub record IsLoopInBounds (u i : Cx) (p : Option Cx) : Type 0 where
  pub voltage : IsBelow u loop_voltage_bound
  pub current : IsBelow i loop_current_bound
  pub polarising : ForSome p (λ v. IsBelow v polarising_bound)
