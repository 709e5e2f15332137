use Rattle.std.proofs.Common.{◌∙◌, ◌∷◌, refl}
use Rattle.goose_publish.specs.Publishing.{take_of}
use Rattle.goose_publish.proofs.ScheduleLemmas.{live_is}
use Rattle.goose_publish.proofs.schedule.Schedule.send.Goals as goal

pub returns-clause-exact : goal.returns-clause-exact
returns-clause-exact c common takes stands =
    let now = take_of c.args.number c.args.points.now ∷ takes in
    let live =
    c.live_ms.ensures.exact common stands.pace.k stands.pace.at ∙ live_is common now c.args.self.now stands in
    rw (stands.change, stands.state, stands.sequence, live) refl
