use Rattle.std.proofs.Common.{refl}
use Rattle.std.specs.Prelude.{Ok, Err, None}
use Rattle.std.proofs.lemmas.Result.{err_from_is_err_and}
use Rattle.room_io.specs.declared.room.Slot.TheVariants.{Goose, Log}
use Rattle.relay_settings.specs.Settings.{plain_settings}
use Rattle.relay_tool.specs.Asking.{names_of_files}
use Rattle.relay_tool.specs.Words.{replay}
use Rattle.relay_tool.specs.Output.{heard_items}
use Rattle.relay_tool.specs.Run.{replay_job}
use Rattle.relay_tool.proofs.Writing.{put-made}
use Rattle.relay_tool.proofs.Replaying.{read-by, settings-end, replay-is, refuses, capture-end, unopened-outputs, begun, output-end, output-open, replay-open, header-end, fault-end, stops-end}
use Rattle.relay_tool.proofs.replay.replay.Goals as goal

pub returns-in_err-settings : goal.returns-in_err-settings
returns-in_err-settings g c =
    let n = names_of_files c.args.files.now in
    let p = err_from_is_err_and c.from_residual.result c.from_residual.ensures.1 in
    rw (p.1, p.2) (settings-end (replay n) n.settings c.in_err-settings.field-0.0 refl (read-by (replay n) n.settings refl c.requires.unused (record { unopened = g.met.R.Room.unopened c.accept_settings.new.room }) c.in_err-settings.ensures) (refuses (replay n) (replay_job n) (replay-is n) (g.R.Room.state c.args.room.now)) c.in_err-settings.ensures.end)

pub returns-in_err-open_capture : goal.returns-in_err-open_capture
returns-in_err-open_capture g c =
    let n = names_of_files c.args.files.now in
    let s = plain_settings c.in_ok-settings.settings in
    let read = read-by (replay n) n.settings refl c.requires.unused (record { unopened = g.met.R.Room.unopened c.accept_settings.new.room }) c.in_ok-settings.ensures in
    let p = err_from_is_err_and c.from_residual-in_err-open_capture.result c.from_residual-in_err-open_capture.ensures.1 in
    rw (p.1, p.2) (capture-end (replay n) (replay_job n) (replay-is n) s c.in_err-open_capture.field-0.0 read (λ told. c.in_ok-settings.ensures.accepted.1 told) (record { unopened = g.met.R.Room.unopened c.open_capture.new.room }) c.in_err-open_capture.ensures)

pub returns-in_err-open_output : goal.returns-in_err-open_output
returns-in_err-open_output g c =
    let n = names_of_files c.args.files.now in
    let s = plain_settings c.in_ok-settings.settings in
    let read = read-by (replay n) n.settings refl c.requires.unused (record { unopened = g.met.R.Room.unopened c.accept_settings.new.room }) c.in_ok-settings.ensures in
    let before = begun (replay n) (replay_job n) (replay-is n) s read (λ told. c.in_ok-settings.ensures.accepted.1 told) (record { unopened = g.met.R.Room.unopened c.open_capture.new.room }) c.in_ok-settings.ensures c.in_ok-open_capture.ensures in
    let p = err_from_is_err_and c.from_residual-in_err-open_output.result c.from_residual-in_err-open_output.ensures.1 in
    rw (p.1, p.2) (output-end (replay n) (replay_job n) (replay-is n) Goose n.goose c.in_err-open_output.field-0.0 refl refl before c.in_err-open_output.ensures)

pub returns-in_err-open_output-2 : goal.returns-in_err-open_output-2
returns-in_err-open_output-2 g c =
    let n = names_of_files c.args.files.now in
    let s = plain_settings c.in_ok-settings.settings in
    let read = read-by (replay n) n.settings refl c.requires.unused (record { unopened = g.met.R.Room.unopened c.accept_settings.new.room }) c.in_ok-settings.ensures in
    let before = begun (replay n) (replay_job n) (replay-is n) s read (λ told. c.in_ok-settings.ensures.accepted.1 told) (record { unopened = g.met.R.Room.unopened c.open_capture.new.room }) c.in_ok-settings.ensures c.in_ok-open_capture.ensures in
    let p = err_from_is_err_and c.from_residual-in_err-open_output-2.result c.from_residual-in_err-open_output-2.ensures.1 in
    rw (p.1, p.2) (output-end (replay n) (replay_job n) (replay-is n) Log n.log c.in_err-open_output-2.field-0.0 refl refl (output-open (replay n) (replay_job n) (replay-is n) Goose n.goose refl refl before c.in_ok-open_output.ensures) c.in_err-open_output-2.ensures)

pub returns-in_err-put_goose_header : goal.returns-in_err-put_goose_header
returns-in_err-put_goose_header g c =
    let n = names_of_files c.args.files.now in
    let s = plain_settings c.in_ok-settings.settings in
    let read = read-by (replay n) n.settings refl c.requires.unused (record { unopened = g.met.R.Room.unopened c.accept_settings.new.room }) c.in_ok-settings.ensures in
    let before = begun (replay n) (replay_job n) (replay-is n) s read (λ told. c.in_ok-settings.ensures.accepted.1 told) (record { unopened = g.met.R.Room.unopened c.open_capture.new.room }) c.in_ok-settings.ensures c.in_ok-open_capture.ensures in
    let opened = replay-open n (unopened-outputs (replay n) (replay_job n) (replay-is n) read c.in_ok-open_capture.ensures) before c.in_ok-open_output.ensures c.in_ok-open_output-2.ensures in
    let p = err_from_is_err_and c.from_residual-in_err-put_goose_header.result c.from_residual-in_err-put_goose_header.ensures.1 in
    rw (p.1, p.2) (header-end (replay n) (replay_job n) (replay-is n) _ c.in_err-put_goose_header.field-0.0 opened (put-made Goose None (Err c.in_err-put_goose_header.field-0.0) refl c.in_err-put_goose_header.ensures))

pub returns-in_err-stopped : goal.returns-in_err-stopped
returns-in_err-stopped g c =
    let n = names_of_files c.args.files.now in
    let s = plain_settings c.in_ok-settings.settings in
    let read = read-by (replay n) n.settings refl c.requires.unused (record { unopened = g.met.R.Room.unopened c.accept_settings.new.room }) c.in_ok-settings.ensures in
    let before = begun (replay n) (replay_job n) (replay-is n) s read (λ told. c.in_ok-settings.ensures.accepted.1 told) (record { unopened = g.met.R.Room.unopened c.open_capture.new.room }) c.in_ok-settings.ensures c.in_ok-open_capture.ensures in
    let opened = replay-open n (unopened-outputs (replay n) (replay_job n) (replay-is n) read c.in_ok-open_capture.ensures) before c.in_ok-open_output.ensures c.in_ok-open_output-2.ensures in
    let made = put-made Goose None (Ok tt) refl c.in_ok-put_goose_header.ensures in
    let runs = c.in_err-stopped.ensures (heard_items s) (record { settings = s; is = refl; stands = c.in_ok-lines.ensures.0 }) in
    let p = err_from_is_err_and c.from_residual-in_err-stopped.result c.from_residual-in_err-stopped.ensures.1 in
    rw (p.1, p.2) (fault-end (replay n) (replay_job n) (replay-is n) opened made _ c.in_err-stopped.field-0.0 runs)

pub returns : goal.returns
returns g c =
    let n = names_of_files c.args.files.now in
    let s = plain_settings c.in_ok-settings.settings in
    let read = read-by (replay n) n.settings refl c.requires.unused (record { unopened = g.met.R.Room.unopened c.accept_settings.new.room }) c.in_ok-settings.ensures in
    let before = begun (replay n) (replay_job n) (replay-is n) s read (λ told. c.in_ok-settings.ensures.accepted.1 told) (record { unopened = g.met.R.Room.unopened c.open_capture.new.room }) c.in_ok-settings.ensures c.in_ok-open_capture.ensures in
    let opened = replay-open n (unopened-outputs (replay n) (replay_job n) (replay-is n) read c.in_ok-open_capture.ensures) before c.in_ok-open_output.ensures c.in_ok-open_output-2.ensures in
    let made = put-made Goose None (Ok tt) refl c.in_ok-put_goose_header.ensures in
    let runs = c.in_ok-stopped.ensures (heard_items s) (record { settings = s; is = refl; stands = c.in_ok-lines.ensures.0 }) in
    stops-end (replay n) (replay_job n) (replay-is n) opened made _ c.in_ok-stopped.stopped runs
