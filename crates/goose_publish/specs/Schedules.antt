-- What the schedule of GOOSE frames holds after its takes.
use Rattle.std.specs.Prelude.{◌≡◌, ◌-◌, List, [], ◌∷◌, Option, Some, None}
use Rattle.sample_windows.specs.Numbered.{Rises}
use Rattle.relay_settings.specs.declared.types.Common.{Common}
use Rattle.goose_publish.specs.declared.points.Points.{Points}
use Rattle.goose_publish.specs.declared.schedule.Schedule.{Schedule}
use Rattle.goose_publish.specs.Paces.{Passed}
use Rattle.goose_publish.specs.Publishing.{PointsTake, number_now, change_number, state, sequence}

abbrev pub points_now : List PointsTake → Option Points
points_now [] = None
points_now (t ∷ older) = Some t.points

-- the schedule after these takes, the newest first
pub record HasTaken (common : Common) (takes : List PointsTake) (schedule : Schedule) : Type 0 where
  pub rises : Rises (λ t. t.number) takes
  pub last : schedule.last ≡ points_now takes
  pub change : schedule.change ≡ change_number takes
  pub state : schedule.state ≡ state takes
  pub sequence : schedule.sequence ≡ sequence common takes
  pub pace : Passed common (number_now takes - change_number takes) schedule.pace
