use Rattle.relay_settings.specs.Settings.{plain_goose}
use Rattle.goose_publish.proofs.FrameLemmas.{frame_ends}
use Rattle.goose_publish.proofs.publisher.Publisher.frame_into.Goals as goal

pub returns-clause-ends : goal.returns-clause-ends
returns-clause-ends c common goose settings =
    let made = c.put_frame.ensures in
    rw (← settings.same_common, ← settings.same_goose, made.bytes)
    (frame_ends c.args.self.now.common (plain_goose c.args.self.now.goose) c.args.send.now
    made.addresses.0 made.addresses.1 made.fields)
