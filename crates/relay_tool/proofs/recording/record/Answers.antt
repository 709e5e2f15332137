use Rattle.std.proofs.Common.{◌≡◌, ◌∙◌, ℕ, List, get_or, refl, sym, ap, subst}
use Rattle.std.specs.Prelude.{Some}
use Rattle.std.proofs.lemmas.Result.{err_from_is_err_and}
use Rattle.line_bank.proofs.BankLaws.{first-of}
use Rattle.relay_settings.specs.declared.types.LineSettings.{LineSettings}
use Rattle.relay_settings.specs.Settings.{PlainLine, plain_line, plain_lines, plain_settings}
use Rattle.relay_tool.specs.Run.{line_named}
use Rattle.relay_tool.specs.Asking.{names_of_record}
use Rattle.relay_tool.specs.Words.{recording}
use Rattle.relay_tool.proofs.Replaying.{read-by, settings-end}
use Rattle.relay_tool.proofs.Keeping.{record-refuses, unnamed-end}
use Rattle.relay_tool.proofs.recording.record.Goals as goal

pub returns-in_err-settings : goal.returns-in_err-settings
returns-in_err-settings g c =
    let n = names_of_record c.args.words.now in
    let p = err_from_is_err_and c.from_residual.result c.from_residual.ensures.1 in
    rw (p.1, p.2) (settings-end (recording n) n.settings c.in_err-settings.field-0.0 refl (read-by (recording n) n.settings refl c.requires.unused (record { unopened = g.met.R.Room.unopened c.accept_settings.new.room }) c.in_err-settings.ensures) (record-refuses n (g.R.Room.state c.args.room.now)) c.in_err-settings.ensures.end)

pub returns-in_default : goal.returns-in_default
returns-in_default g c =
    let n = names_of_record c.args.words.now in
    let s = plain_settings c.in_ok-settings.settings in
    let read = read-by (recording n) n.settings refl c.requires.unused (record { unopened = g.met.R.Room.unopened c.accept_settings.new.room }) c.in_ok-settings.ensures in
    unnamed-end n s read (λ told. c.in_ok-settings.ensures.accepted.1 told)
    (let none = rw c.in_default.is at c.place_of.ensures.none in
    ap (λ (ls : List LineSettings). line_named n.line (plain_lines ls)) (sym c.as_slice.ensures.value) ∙ (ap (λ (x : List ℕ). line_named x (plain_lines c.as_slice.result.now)) (sym c.as_bytes.ensures.value) ∙ none))

pub returns : goal.returns
returns g c =
    let settings = c.in_ok-settings.settings in
    let place = c.in-Some.place in
    let d : PlainLine = plain_line (first-of c.as_slice.result.now place c.in-Some.ensures.within) in
    let named : line_named c.args.words.now.line.now (plain_lines settings.lines.items) ≡ Some (get_or (plain_lines settings.lines.items) place d) =
    subst (λ (ls : List LineSettings). line_named c.args.words.now.line.now (plain_lines ls) ≡ Some (get_or (plain_lines ls) place d)) c.as_slice.ensures.value
    (subst (λ (x : List ℕ). line_named x (plain_lines c.as_slice.result.now) ≡ Some (get_or (plain_lines c.as_slice.result.now) place d)) c.as_bytes.ensures.value (c.in-Some.ensures.found d)) in
    c.keep.ensures (get_or (plain_lines settings.lines.items) place d) settings (g.R.Room.state c.args.room.now) c.requires.unused c.in_ok-settings.ensures named (c.in_ok-recorder.ensures.stands d)
