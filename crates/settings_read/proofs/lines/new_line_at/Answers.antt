use Rattle.std.proofs.Common.{sym}
use Rattle.settings_read.specs.View.{plain_place}
use Rattle.relay_settings.specs.Settings.{plain_line}
use Rattle.settings_read.proofs.NewLine.{new_line_at-name, new_line_at-sv_id, new_line_at-gocb_ref, new_line_at-new}
use Rattle.settings_read.proofs.lines.new_line_at.Goals as goal

pub returns-then-has_name-clause-value : goal.returns-then-has_name-clause-value
returns-then-has_name-clause-value c =
    rw c.refuse.ensures (new_line_at-name c.args.version (plain_place c.args.here.now) c.args.done.now (plain_line c.in_ok-line.line) c.in_ok-line.ensures.value (rw c.as_slice.ensures.value at c.if-has_name.ensures))

pub returns-then-has_sv_id-clause-value : goal.returns-then-has_sv_id-clause-value
returns-then-has_sv_id-clause-value c =
    rw c.refuse-then-has_sv_id.ensures (new_line_at-sv_id c.args.version (plain_place c.args.here.now) c.args.done.now (plain_line c.in_ok-line.line) c.in_ok-line.ensures.value (rw c.as_slice.ensures.value at c.if-has_name.ensures) (rw c.as_slice-2.ensures.value at c.if-has_sv_id.ensures))

pub returns-then-has_gocb_ref-clause-value : goal.returns-then-has_gocb_ref-clause-value
returns-then-has_gocb_ref-clause-value c =
    rw c.refuse-then-has_gocb_ref.ensures (new_line_at-gocb_ref c.args.version (plain_place c.args.here.now) c.args.done.now (plain_line c.in_ok-line.line) c.in_ok-line.ensures.value (rw c.as_slice.ensures.value at c.if-has_name.ensures) (rw c.as_slice-2.ensures.value at c.if-has_sv_id.ensures) (rw c.as_slice-3.ensures.value at c.if-has_gocb_ref.ensures))

pub returns-clause-value : goal.returns-clause-value
returns-clause-value c =
    new_line_at-new c.args.version (plain_place c.args.here.now) c.args.done.now (plain_line c.in_ok-line.line) c.in_ok-line.ensures.value (rw c.as_slice.ensures.value at c.if-has_name.ensures) (rw c.as_slice-2.ensures.value at c.if-has_sv_id.ensures) (rw c.as_slice-3.ensures.value at c.if-has_gocb_ref.ensures)

pub returns-clause-new : goal.returns-clause-new
returns-clause-new c = record {
  name = sym (rw c.as_slice.ensures.value at c.if-has_name.ensures);
  sv_id = sym (rw c.as_slice-2.ensures.value at c.if-has_sv_id.ensures);
  gocb_ref = sym (rw c.as_slice-3.ensures.value at c.if-has_gocb_ref.ensures);
}
