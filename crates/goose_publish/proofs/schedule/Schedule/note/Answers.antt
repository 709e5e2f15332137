use Rattle.std.proofs.Common.{◌∙◌, ap, ap₂, sym, refl, ◌||◌}
use Rattle.std.specs.Prelude.{if◌then◌else◌}
use Rattle.goose_publish.specs.Publishing.{take_of, next_count}
use Rattle.goose_publish.proofs.ScheduleLemmas.{changed_next, was_passed, due_now, same_next}
use Rattle.goose_publish.proofs.schedule.Schedule.note.Goals as goal

pub returns-then-changes-clause-after : goal.returns-then-changes-clause-after
returns-then-changes-clause-after c common takes stands rises =
    changed_next common takes c.args.self.now stands (take_of c.args.number c.args.points.now) rises
    (sym (c.changes.ensures common takes c.args.number stands) ∙ c.if-changes.true)
    _ refl refl c.next_of-self.ensures refl (c.restart.ensures common stands.pace.k stands.pace.at)

pub returns-then-pass-clause-sends : goal.returns-then-pass-clause-sends
returns-then-pass-clause-sends c common takes stands rises =
    let t = take_of c.args.number c.args.points.now in
    let same = sym (c.changes.ensures common takes c.args.number stands) ∙ c.if-changes.false in
    let due = due_now common takes c.args.self.now stands t rises c.saturating_sub.result c.saturating_sub.ensures same
    ∙ sym (c.pass.ensures.due common stands.pace.k stands.pace.at) ∙ c.if-pass.true in
    sym (ap₂ (λ a b. a || b) same due)

pub returns-then-pass-clause-after : goal.returns-then-pass-clause-after
returns-then-pass-clause-after c common takes stands rises =
    let t = take_of c.args.number c.args.points.now in
    let same = sym (c.changes.ensures common takes c.args.number stands) ∙ c.if-changes.false in
    let due = due_now common takes c.args.self.now stands t rises c.saturating_sub.result c.saturating_sub.ensures same
    ∙ sym (c.pass.ensures.due common stands.pace.k stands.pace.at) ∙ c.if-pass.true in
    same_next common takes c.args.self.now stands t rises c.saturating_sub.result c.saturating_sub.ensures same
    _ refl refl refl
    (c.next_of-self-then-pass.ensures
    ∙ sym (ap (λ b. if b then next_count c.args.self.now.sequence else c.args.self.now.sequence) due))
    (c.pass.ensures.after common stands.pace.k stands.pace.at
    (was_passed common takes c.args.self.now stands t rises c.saturating_sub.result c.saturating_sub.ensures same))

pub returns-else-pass-clause-sends : goal.returns-else-pass-clause-sends
returns-else-pass-clause-sends c common takes stands rises =
    let t = take_of c.args.number c.args.points.now in
    let same = sym (c.changes.ensures common takes c.args.number stands) ∙ c.if-changes.false in
    let due = due_now common takes c.args.self.now stands t rises c.saturating_sub.result c.saturating_sub.ensures same
    ∙ sym (c.pass.ensures.due common stands.pace.k stands.pace.at) ∙ c.if-pass.false in
    sym (ap₂ (λ a b. a || b) same due)

pub returns-else-pass-clause-after : goal.returns-else-pass-clause-after
returns-else-pass-clause-after c common takes stands rises =
    let t = take_of c.args.number c.args.points.now in
    let same = sym (c.changes.ensures common takes c.args.number stands) ∙ c.if-changes.false in
    let due = due_now common takes c.args.self.now stands t rises c.saturating_sub.result c.saturating_sub.ensures same
    ∙ sym (c.pass.ensures.due common stands.pace.k stands.pace.at) ∙ c.if-pass.false in
    same_next common takes c.args.self.now stands t rises c.saturating_sub.result c.saturating_sub.ensures same
    _ refl refl refl
    (sym (ap (λ b. if b then next_count c.args.self.now.sequence else c.args.self.now.sequence) due))
    (c.pass.ensures.after common stands.pace.k stands.pace.at
    (was_passed common takes c.args.self.now stands t rises c.saturating_sub.result c.saturating_sub.ensures same))
