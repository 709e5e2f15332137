use Rattle.trip_logic.proofs.NumberedTripLemmas.{trips_by_number}
use Rattle.trip_logic.proofs.laws.show_trips_by_number.Goals as goal

pub returns : goal.returns
returns g c = trips_by_number _
