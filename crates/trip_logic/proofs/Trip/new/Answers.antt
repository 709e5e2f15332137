use Rattle.trip_logic.proofs.KeptTripLemmas.{holds_nothing}
use Rattle.trip_logic.proofs.Trip.new.Goals as goal

pub returns : goal.returns
returns c = holds_nothing c.args.min c.args.open_run
