use Rattle.std.proofs.Common.{◌∙◌, refl}
use Rattle.std.specs.Prelude.{Ok, Err, Some}
use Rattle.std.proofs.lemmas.Result.{err_from_is_err_and}
use Rattle.room_io.specs.declared.room.Slot.TheVariants.{Log}
use Rattle.relay_tool.specs.Output.{backup_item}
use Rattle.relay_tool.proofs.Writing.{Makes-nothing, put-made}
use Rattle.relay_tool.proofs.Hearing.{events-made, events-stopped, events-done}
use Rattle.inverse_time.specs.declared.event.BackupEvent.{BackupEvent}
use Rattle.inverse_time.specs.declared.event.BackupWhat.TheVariants.{Start}
use Rattle.relay_tool.proofs.backups.put_backups.Goals as goal

abbrev none : BackupEvent
none = record { at = record { number = 0; seconds = 0; nanos = 0 }; phase = 0; what = Start }

pub returns-in_err-put_backup : goal.returns-in_err-put_backup
returns-in_err-put_backup g c =
    let p = err_from_is_err_and c.from_residual.result c.from_residual.ensures.1 in
    rw (p.1, p.2)
    (events-stopped (backup_item c.args.name.now) c.args.events.now c.loop-event.event-index none c.loop-event-test.true c.loop-event.invariant.made
    (put-made Log (Some c.args.name.now) (Err c.in_err-put_backup.field-0.0) refl
    c.in_err-put_backup.ensures))

pub loop-event-preserved : goal.loop-event-preserved
loop-event-preserved g c = record {
  log = (refl, c.in_ok-put_backup.ensures.stays.ready ∙ c.loop-event.invariant.log.1);
  made = events-made (backup_item c.args.name.now) c.args.events.now c.loop-event.event-index none c.loop-event-test.true c.loop-event.invariant.made
      (put-made Log (Some c.args.name.now) (Ok tt) refl
      c.in_ok-put_backup.ensures);
}

pub loop-event-init : goal.loop-event-init
loop-event-init g c = record { log = c.requires.log; made = Makes-nothing _ }

pub returns : goal.returns
returns g c = events-done (backup_item c.args.name.now) c.args.events.now c.loop-event.event-index c.loop-event-test.false c.loop-event.invariant.made
