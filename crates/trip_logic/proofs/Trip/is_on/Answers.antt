use Rattle.std.proofs.Common.{ap, sym, ◌∙◌, not, ◌&&◌}
use Rattle.trip_logic.proofs.KeptTripLemmas.{held_is_on}
use Rattle.trip_logic.proofs.Trip.is_on.Goals as goal

pub returns-then-is_some : goal.returns-then-is_some
returns-then-is_some c least open_run takes stands =
    ap (λ b. b && not c.args.self.now.ended) (sym c.if-is_some.true ∙ c.is_some.ensures) ∙ held_is_on least open_run takes c.args.self.now stands

pub returns-else-is_some : goal.returns-else-is_some
returns-else-is_some c least open_run takes stands =
    c.if-is_some.false ∙ ap (λ b. b && not c.args.self.now.ended) (sym c.if-is_some.false ∙ c.is_some.ensures) ∙ held_is_on least open_run takes c.args.self.now stands
