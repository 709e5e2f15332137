use Rattle.std.proofs.Common.{◌∙◌}
use Rattle.toml.specs.View.{table_view}
use Rattle.settings_read.specs.Accepted.{accepted}
use Rattle.settings_read.proofs.Tree.{tree-text, tree-no_text, accepted-none, accepted-some}
use Rattle.settings_read.proofs.file.read_settings.Goals as goal

pub returns-in-Err-clause-exact : goal.returns-in-Err-clause-exact
returns-in-Err-clause-exact c = (c.file-in-Err.ensures.exact (accepted c.args.bytes.now)).1 (accepted-none c.args.bytes.now c.if-bytes-gt-MOST_BYTES.false (tree-no_text c.args.bytes.now c.in-Err.ensures.cases.0))

pub returns-clause-exact : goal.returns-clause-exact
returns-clause-exact c =
    let some = tree-text c.args.bytes.now c.in-Ok.ensures.cases.1 ∙ rw c.in-Ok.ensures.cases.0 at c.in-Ok-table_from_str.ensures.ok in
    rw (← accepted-some c.args.bytes.now (table_view c.in-Ok-table_from_str.table) c.if-bytes-gt-MOST_BYTES.false some) (rw c.top_of.ensures.value at c.settings_at.ensures.exact)
