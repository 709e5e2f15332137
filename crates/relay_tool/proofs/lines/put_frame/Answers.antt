use Rattle.std.proofs.Common.{ℕ, List, ◌++◌, ◌∙◌, ap, refl}
use Rattle.std.specs.Prelude.{Some}
use Rattle.room_io.specs.declared.room.Slot.TheVariants.{Goose}
use Rattle.relay_tool.specs.Output.{frame_record}
use Rattle.relay_tool.proofs.Writing.{put-made}
use Rattle.relay_tool.proofs.Telling.{send-made}
use Rattle.relay_tool.proofs.lines.put_frame.Goals as goal

pub returns-clause-sends : goal.returns-clause-sends
returns-clause-sends g c common settings asdus stands =
    send-made common settings c.args.send.now c.moment-at.result c.as_slice.result.now c.as_slice-2.result.now
    (c.moment-at.ensures common settings asdus stands) (c.as_slice.ensures.value ∙ c.frame_into.ensures.bytes common settings asdus stands)
    (c.as_slice-2.ensures.value ∙ (c.put_record.ensures ∙ ap (λ (xs : List ℕ). xs ++ frame_record c.moment-at.result c.as_slice.result.now) c.clear.ensures))
    (put-made Goose (Some settings.name) c.put.result refl c.put.ensures)
