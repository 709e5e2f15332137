use Rattle.std.proofs.Common.{◌∙◌, sym, subst, map, ℕ}
use Rattle.std.specs.Prelude.{string_bytes}
use Rattle.relay_tool.specs.Ends.{ending_of}
use Rattle.relay_tool.specs.Words.{form}
use Rattle.relay_tool.specs.Answers.{IsNoted, Answers}
use Rattle.relay_tool.proofs.Ending.{noted, answers}
use Rattle.relay_tool.proofs.Heading.{headline}
use Rattle.relay_tool.proofs.top.relay.Goals as goal

pub returns : goal.returns
returns g c =
    let asked = form (map string_bytes c.args.words.now) in
    let ending = ending_of c.perform-end.result in
    let old = g.R.Room.state c.args.room.now in
    let mid = g.R.Room.state c.perform-end.new.room in
    let new = g.R.Room.state c.write_whole.new.room in
    let work = c.perform-end.ensures in
    let is : Answers (map string_bytes c.args.words.now) old new c.status_of.result =
    subst (λ (status : ℕ). Answers (map string_bytes c.args.words.now) old new status) (sym c.status_of.ensures)
    (answers asked old mid new (record { unopened = g.met.R.Room.unopened c.write_whole.new.room }) c.write_whole.ensures.only c.write_whole.ensures.cause.later ending work
    (λ told. subst (λ text. IsNoted text old new) (c.as_slice.ensures.value ∙ c.note_of.ensures)
    (noted c.write_whole.result c.as_slice.result.now old mid new work.note (c.requires.note told) (work.tells ∙ told) c.write_whole.ensures.whole c.write_whole.ensures.part c.write_whole.ensures.cause.failed))) in
    record { answers = is; headline = headline (map string_bytes c.args.words.now) old new c.status_of.result is }
