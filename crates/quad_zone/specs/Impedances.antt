-- A loop's impedance, as the code keeps it for all quadrilaterals.
use Rattle.std.specs.Prelude.{◌≡◌}
use Rattle.relay_num.specs.declared.Cx.{Cx}
use Rattle.relay_num.specs.Numbers.{norm}
use Rattle.apparent_impedance.specs.Impedance.{apparent, loop_scale}
use Rattle.quad_zone.specs.declared.impedance.LoopImpedance.{LoopImpedance}

-- formed of voltage u and current i: U / I in milliohms times |I|^2, and that square
pub record IsImpedance (u i : Cx) (formed : LoopImpedance) : Type 0 where
  pub resistance : formed.resistance ≡ (apparent loop_scale u i).re
  pub reactance : formed.reactance ≡ (apparent loop_scale u i).im
  pub square : formed.square ≡ norm i
