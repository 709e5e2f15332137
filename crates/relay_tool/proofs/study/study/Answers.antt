use Rattle.std.proofs.Common.{refl}
use Rattle.std.proofs.lemmas.Result.{err_from_is_err_and}
use Rattle.relay_tool.specs.Asking.{names_of_study, study_of}
use Rattle.inverse_time.specs.InverseCurves.{dial_of}
use Rattle.breaker_guard.specs.Guarding.{times_of}
use Rattle.relay_tool.specs.Words.{study, backup, locate, guard}
use Rattle.relay_tool.specs.Output.{backup_items, located_items, guard_items}
use Rattle.relay_tool.specs.Run.{study_job}
use Rattle.relay_tool.proofs.Replaying.{read-by, settings-end, study-is, refuses}
use Rattle.relay_tool.proofs.study.study.Goals as goal

pub returns-in_err-settings : goal.returns-in_err-settings
returns-in_err-settings g c =
    let n = names_of_study c.args.files.now in
    let s = study_of c.args.study in
    let p = err_from_is_err_and c.from_residual.result c.from_residual.ensures.1 in
    rw (p.1, p.2) (settings-end (study s n) n.settings c.in_err-settings.field-0.0 refl (read-by (study s n) n.settings refl c.requires.unused (record { unopened = g.met.R.Room.unopened c.accept_settings.new.room }) c.in_err-settings.ensures) (refuses (study s n) (study_job s n) (study-is s n) (g.R.Room.state c.args.room.now)) c.in_err-settings.ensures.end)

pub returns-in-Backup : goal.returns-in-Backup
returns-in-Backup g c =
    rw c.in-Backup.is (c.observe.ensures (backup (dial_of c.in-Backup.curve c.in-Backup.pickup c.in-Backup.tms)) c.in_ok-settings.settings (g.R.Room.state c.args.room.now) c.requires.unused c.in_ok-settings.ensures (c.in_ok-bank-in-Backup.ensures.stands backup_items (λ name told. refl)))

pub returns-in-Locate : goal.returns-in-Locate
returns-in-Locate g c =
    rw c.in-Locate.is (c.observe-in-Locate.ensures locate c.in_ok-settings.settings (g.R.Room.state c.args.room.now) c.requires.unused c.in_ok-settings.ensures (c.in_ok-bank-in-Locate.ensures.stands located_items (λ name told. refl)))

pub returns : goal.returns
returns g c =
    rw c.in-Guard.is (c.observe-in-Guard.ensures (guard (times_of c.in-Guard.fail_ms c.in-Guard.dead_ms c.in-Guard.reclaim_ms)) c.in_ok-settings.settings (g.R.Room.state c.args.room.now) c.requires.unused c.in_ok-settings.ensures (c.in_ok-bank-in-Guard.ensures.stands guard_items (λ name told. refl)))
