-- What is published of a sample, by the facts that are shown of it.
use Rattle.std.specs.Prelude.{ℕ, ◌≡◌, Bool, false, List}
use Rattle.std.specs.Option.{ForSome}
use Rattle.goose_publish.specs.Publishing.{PointsTake, take_of, RisesTo}
use Rattle.goose_publish.specs.Schedules.{points_now}
use Rattle.line_relay.specs.declared.shown.Shown.{Shown}
use Rattle.line_relay.specs.Shown.{facts_shown}
use Rattle.line_relay.specs.Points.{points_of}

-- the take of the sample with this number at which these facts hold, with the trip
abbrev pub shown_take : ℕ → Shown → Bool → PointsTake
shown_take number shown trip = take_of number (points_of (facts_shown shown trip))

-- The take follows these takes: its number is greater, and where no fact has changed its points are those of the last.
pub record IsNextTake (take : PointsTake) (changed : Bool) (takes : List PointsTake) : Type 0 where
  pub rises : RisesTo take takes
  pub same : changed ≡ false → ForSome (points_now takes) (λ last. last ≡ take.points)
