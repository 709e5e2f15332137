use Rattle.std.proofs.Common.{refl}
use Rattle.std.proofs.lemmas.Result.{err_from_is_err_and}
use Rattle.room_io.specs.declared.room.Slot.TheVariants.{Log}
use Rattle.relay_settings.specs.Settings.{plain_settings}
use Rattle.relay_tool.specs.Asking.{names_of_study}
use Rattle.relay_tool.specs.Words.{study}
use Rattle.relay_tool.specs.Output.{study_items}
use Rattle.relay_tool.specs.Run.{study_job}
use Rattle.relay_tool.proofs.Writing.{Makes-nothing}
use Rattle.relay_tool.proofs.Replaying.{read-by, study-is, capture-end, unopened-outputs, begun, output-end, study-open, fault-end, stops-end}
use Rattle.relay_tool.proofs.study.observe.Goals as goal

pub returns-in_err-open_capture : goal.returns-in_err-open_capture
returns-in_err-open_capture g c asked settings old unused reads stands =
    let n = names_of_study c.args.files.now in
    let s = plain_settings settings in
    let read = read-by (study asked n) n.settings refl unused (record { unopened = g.met.R.Room.unopened c.args.room.now }) reads in
    let p = err_from_is_err_and c.from_residual.result c.from_residual.ensures.1 in
    rw (p.1, p.2) (capture-end (study asked n) (study_job asked n) (study-is asked n) s c.in_err-open_capture.field-0.0 read (λ told. reads.accepted.1 told) (record { unopened = g.met.R.Room.unopened c.open_capture.new.room }) c.in_err-open_capture.ensures)

pub returns-in_err-open_output : goal.returns-in_err-open_output
returns-in_err-open_output g c asked settings old unused reads stands =
    let n = names_of_study c.args.files.now in
    let s = plain_settings settings in
    let read = read-by (study asked n) n.settings refl unused (record { unopened = g.met.R.Room.unopened c.args.room.now }) reads in
    let before = begun (study asked n) (study_job asked n) (study-is asked n) s read (λ told. reads.accepted.1 told) (record { unopened = g.met.R.Room.unopened c.open_capture.new.room }) reads c.in_ok-open_capture.ensures in
    let p = err_from_is_err_and c.from_residual-in_err-open_output.result c.from_residual-in_err-open_output.ensures.1 in
    rw (p.1, p.2) (output-end (study asked n) (study_job asked n) (study-is asked n) Log n.log c.in_err-open_output.field-0.0 refl refl before c.in_err-open_output.ensures)

pub returns-in_err-stopped : goal.returns-in_err-stopped
returns-in_err-stopped g c asked settings old unused reads stands =
    let n = names_of_study c.args.files.now in
    let s = plain_settings settings in
    let read = read-by (study asked n) n.settings refl unused (record { unopened = g.met.R.Room.unopened c.args.room.now }) reads in
    let before = begun (study asked n) (study_job asked n) (study-is asked n) s read (λ told. reads.accepted.1 told) (record { unopened = g.met.R.Room.unopened c.open_capture.new.room }) reads c.in_ok-open_capture.ensures in
    let opened = study-open asked n (unopened-outputs (study asked n) (study_job asked n) (study-is asked n) read c.in_ok-open_capture.ensures) before c.in_ok-open_output.ensures in
    let runs = c.in_err-stopped.ensures (study_items asked s) stands in
    let p = err_from_is_err_and c.from_residual-in_err-stopped.result c.from_residual-in_err-stopped.ensures.1 in
    rw (p.1, p.2) (fault-end (study asked n) (study_job asked n) (study-is asked n) opened (Makes-nothing _) _ c.in_err-stopped.field-0.0 runs)

pub returns : goal.returns
returns g c asked settings old unused reads stands =
    let n = names_of_study c.args.files.now in
    let s = plain_settings settings in
    let read = read-by (study asked n) n.settings refl unused (record { unopened = g.met.R.Room.unopened c.args.room.now }) reads in
    let before = begun (study asked n) (study_job asked n) (study-is asked n) s read (λ told. reads.accepted.1 told) (record { unopened = g.met.R.Room.unopened c.open_capture.new.room }) reads c.in_ok-open_capture.ensures in
    let opened = study-open asked n (unopened-outputs (study asked n) (study_job asked n) (study-is asked n) read c.in_ok-open_capture.ensures) before c.in_ok-open_output.ensures in
    let runs = c.in_ok-stopped.ensures (study_items asked s) stands in
    stops-end (study asked n) (study_job asked n) (study-is asked n) opened (Makes-nothing _) _ c.in_ok-stopped.stopped runs
