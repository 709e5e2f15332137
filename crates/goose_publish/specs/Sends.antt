-- What holds of each GOOSE frame that is sent at a sample, whatever came before.
use Rattle.std.specs.Prelude.{ℕ, ◌≡◌, ◌≤◌}
use Rattle.goose_publish.specs.declared.points.Points.{Points}
use Rattle.goose_publish.specs.declared.points.Send.{Send}

-- the frame is of the sample with this number and these points, which changed at it or before
pub record IsSentAt (sample : ℕ) (taken : Points) (send : Send) : Type 0 where
  pub number : send.number ≡ sample
  pub points : send.points ≡ taken
  pub change : send.change ≤ send.number
  pub live_ms : send.live_ms ≤ 180000
