use Rattle.std.proofs.Common.{subst, ◌∙◌, sym}
use Rattle.relay_num.specs.Bounds.{AllBelow, value_bound}
use Rattle.sample_stream.proofs.SampleLemmas.{used_below}
use Rattle.sample_stream.proofs.sample.sample_of.Goals as goal

pub returns-clause-small : goal.returns-clause-small
returns-clause-small c =
    subst (λ vs. AllBelow vs value_bound) (sym c.used_values.ensures)
    (used_below c.args.mask c.args.synch_min c.args.synch c.args.channels.now (sym c.is_good.ensures ∙ c.if-not-is_good.false))
