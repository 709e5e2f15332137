use Rattle.goose_publish.proofs.publisher.Publisher.is_idle.Goals as goal

pub returns-clause-after : goal.returns-clause-after
returns-clause-after c common goose takes points stands rises same idle = record {
  settings = stands.settings;
  schedule = c.is_idle.ensures.after common takes points stands.schedule rises same idle;
}
