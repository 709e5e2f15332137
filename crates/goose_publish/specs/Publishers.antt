-- What a publisher of GOOSE frames holds after its takes.
use Rattle.std.specs.Prelude.{◌≡◌, List}
use Rattle.relay_settings.specs.declared.types.Common.{Common}
use Rattle.relay_settings.specs.Settings.{PlainGoose, plain_goose}
use Rattle.goose_publish.specs.declared.publisher.Publisher.{Publisher}
use Rattle.goose_publish.specs.Publishing.{PointsTake}
use Rattle.goose_publish.specs.Schedules.{HasTaken}

-- the settings with which the publisher was made
pub record HasSettings (common : Common) (goose : PlainGoose) (publisher : Publisher) : Type 0 where
  pub same_common : publisher.common ≡ common
  pub same_goose : plain_goose publisher.goose ≡ goose

-- the publisher with these settings after these takes, the newest first
pub record StandsFor (common : Common) (goose : PlainGoose) (takes : List PointsTake) (publisher : Publisher)
    : Type 0 where
  pub settings : HasSettings common goose publisher
  pub schedule : HasTaken common takes publisher.schedule
