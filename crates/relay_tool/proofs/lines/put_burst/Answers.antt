use Rattle.std.proofs.Common.{◌∙◌, refl, sym, subst, ap}
use Rattle.std.specs.Prelude.{Option}
use Rattle.std.proofs.lemmas.Result.{err_from_is_err_and}
use Rattle.goose_publish.specs.declared.points.Send.{Send}
use Rattle.relay_settings.specs.Settings.{PlainLine}
use Rattle.room_io.specs.declared.room.Slot.TheVariants.{Goose}
use Rattle.relay_tool.specs.Output.{send_items}
use Rattle.relay_tool.specs.Making.{Makes}
use Rattle.relay_tool.proofs.Writing.{Makes-more}
use Rattle.relay_tool.proofs.Telling.{events-told, events-failed}
use Rattle.relay_tool.proofs.lines.put_burst.Goals as goal

pub returns-in_err-put_events-clause-made : goal.returns-in_err-put_events-clause-made
returns-in_err-put_events-clause-made g c common settings asdus stands =
    let p = err_from_is_err_and c.from_residual.result c.from_residual.ensures.1 in
    rw (p.1, p.2) (events-failed common settings c.name.result.now c.as_slice.result.now c.args.burst.now.events.items c.args.burst.now.send
    (c.name.ensures.name ∙ ap (λ (line : PlainLine). line.name) stands.same_settings) c.as_slice.ensures.value c.in_err-put_events.ensures)

pub put_frame-requires : goal.put_frame-requires
put_frame-requires g c = (refl, (c.put_events.ensures.only.each Goose).ready ∙ c.requires.goose.1)

pub returns-in-Some-clause-made : goal.returns-in-Some-clause-made
returns-in-Some-clause-made g c common settings asdus stands =
    Makes-more c.put_frame.result (events-told settings c.name.result.now c.as_slice.result.now c.args.burst.now.events.items
    (c.name.ensures.name ∙ ap (λ (line : PlainLine). line.name) stands.same_settings) c.as_slice.ensures.value c.in_ok-put_events.ensures)
    (subst (λ (send : Option Send). Makes (send_items common settings send) (g.R.Room.state c.put_events.new.room) (g.R.Room.state c.put_frame.new.room) c.put_frame.result) (sym c.in-Some.is)
    (c.put_frame.ensures.sends common settings asdus stands))
