use Rattle.std.proofs.Common.{◌∙◌, refl}
use Rattle.std.specs.Prelude.{Ok, Err, Some}
use Rattle.std.proofs.lemmas.Result.{err_from_is_err_and}
use Rattle.room_io.specs.declared.room.Slot.TheVariants.{Log}
use Rattle.event_record.specs.declared.event.Event.{Event}
use Rattle.event_record.specs.declared.event.Event.TheVariants.{Malformed}
use Rattle.sv_frame.specs.declared.Reason.TheVariants.{Header}
use Rattle.relay_tool.specs.Output.{event_item}
use Rattle.relay_tool.proofs.Writing.{Makes-nothing, put-made}
use Rattle.relay_tool.proofs.Hearing.{events-made, events-stopped, events-done}
use Rattle.relay_tool.proofs.lines.put_events.Goals as goal

abbrev none : Event
none = Malformed 0 Header

pub returns-in_err-put_event : goal.returns-in_err-put_event
returns-in_err-put_event g c =
    let p = err_from_is_err_and c.from_residual.result c.from_residual.ensures.1 in
    rw (p.1, p.2)
    (events-stopped (event_item c.args.name.now) c.args.events.now c.loop-event.event-index none c.loop-event-test.true c.loop-event.invariant.made
    (put-made Log (Some c.args.name.now) (Err c.in_err-put_event.field-0.0) refl
    c.in_err-put_event.ensures))

pub loop-event-preserved : goal.loop-event-preserved
loop-event-preserved g c = record {
  log = (refl, c.in_ok-put_event.ensures.stays.ready ∙ c.loop-event.invariant.log.1);
  made = events-made (event_item c.args.name.now) c.args.events.now c.loop-event.event-index none c.loop-event-test.true c.loop-event.invariant.made
      (put-made Log (Some c.args.name.now) (Ok tt) refl
      c.in_ok-put_event.ensures);
}

pub loop-event-init : goal.loop-event-init
loop-event-init g c = record { log = c.requires.log; made = Makes-nothing _ }

pub returns : goal.returns
returns g c = events-done (event_item c.args.name.now) c.args.events.now c.loop-event.event-index c.loop-event-test.false c.loop-event.invariant.made
