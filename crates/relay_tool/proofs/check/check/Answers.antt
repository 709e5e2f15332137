use Rattle.std.proofs.Common.{◌∙◌, refl, ap, sym}
use Rattle.std.proofs.lemmas.Result.{err_from_is_err_and}
use Rattle.relay_tool.specs.Words.{check}
use Rattle.relay_tool.specs.Run.{check_by}
use Rattle.relay_tool.proofs.Replaying.{read-by, settings-end}
use Rattle.relay_tool.proofs.Checking.{answered, answer-done, answer-fault, check-started}
use Rattle.relay_tool.proofs.check.check.Goals as goal

pub returns-in_err-settings : goal.returns-in_err-settings
returns-in_err-settings g c =
    let p = err_from_is_err_and c.from_residual.result c.from_residual.ensures.1 in
    rw (p.1, p.2) (settings-end (check c.args.name.now) c.args.name.now c.in_err-settings.field-0.0 refl
    (read-by (check c.args.name.now) c.args.name.now refl c.requires.unused (record { unopened = g.met.R.Room.unopened c.accept_settings.new.room }) c.in_err-settings.ensures)
    (λ r e. ap check_by e) c.in_err-settings.ensures.end)

pub returns-in_err-put : goal.returns-in_err-put
returns-in_err-put g c =
    let p = err_from_is_err_and c.from_residual-in_err-put.result c.from_residual-in_err-put.ensures.1 in
    let read = read-by (check c.args.name.now) c.args.name.now refl c.requires.unused (record { unopened = g.met.R.Room.unopened c.accept_settings.new.room }) c.in_ok-settings.ensures in
    rw (p.1, p.2) (answer-fault (check c.args.name.now) (λ e. e) _ _ read (λ told. ap check_by (c.in_ok-settings.ensures.accepted.1 told) ∙ ap answered (sym (c.as_slice.ensures.value ∙ c.answer_of.ensures))) c.in_err-put.field-0.0 refl c.in_err-put.ensures)

pub returns : goal.returns
returns g c =
    let read = read-by (check c.args.name.now) c.args.name.now refl c.requires.unused (record { unopened = g.met.R.Room.unopened c.accept_settings.new.room }) c.in_ok-settings.ensures in
    answer-done (check c.args.name.now) (λ e. e) _ _ read (λ told. ap check_by (c.in_ok-settings.ensures.accepted.1 told) ∙ ap answered (sym (c.as_slice.ensures.value ∙ c.answer_of.ensures)))
    (check-started c.args.name.now read c.in_ok-settings.ensures.named) c.in_ok-put.ensures
