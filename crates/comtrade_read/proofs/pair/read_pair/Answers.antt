use Rattle.std.proofs.Common.{◌∙◌, sym}
use Rattle.comtrade_read.specs.Rows.{BeginsAtZero}
use Rattle.comtrade_read.proofs.MomentLemmas.{refuted}
use Rattle.comtrade_read.proofs.pair.read_pair.Goals as goal

pub returns-then-begins_at_zero-clause-complete : goal.returns-then-begins_at_zero-clause-complete
returns-then-begins_at_zero-clause-complete c rate samples pair =
    let said = c.in-Some.ensures.complete pair.configuration pair.ranges pair.config in
    let read = c.in_ok-samples.ensures.complete samples (sym (said.1 ∙ pair.same_count)) pair.times pair.rows in
    (said.0 ∙ pair.same_rate, read)

pub returns-else-begins_at_zero-clause-refused : goal.returns-else-begins_at_zero-clause-refused
returns-else-begins_at_zero-clause-refused c _ rate samples pair =
    let said = c.in-Some.ensures.complete pair.configuration pair.ranges pair.config in
    let read = c.in_ok-samples.ensures.complete samples (sym (said.1 ∙ pair.same_count)) pair.times pair.rows in
    let here : BeginsAtZero c.as_slice.result.now = rw (c.as_slice.ensures.value, read) pair.begins in
    refuted c.begins_at_zero.result c.if-begins_at_zero.false c.begins_at_zero.ensures here

pub returns-else-begins_at_zero-clause-complete : goal.returns-else-begins_at_zero-clause-complete
returns-else-begins_at_zero-clause-complete c rate samples pair =
    let said = c.in-Some.ensures.complete pair.configuration pair.ranges pair.config in
    let read = c.in_ok-samples.ensures.complete samples (sym (said.1 ∙ pair.same_count)) pair.times pair.rows in
    let here : BeginsAtZero c.as_slice.result.now = rw (c.as_slice.ensures.value, read) pair.begins in
    absurd (refuted c.begins_at_zero.result c.if-begins_at_zero.false c.begins_at_zero.ensures here)
