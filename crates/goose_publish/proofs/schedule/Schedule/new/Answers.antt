use Rattle.std.proofs.Common.{refl}
use Rattle.sample_windows.specs.Windows.{newest_where}
use Rattle.goose_publish.specs.Publishing.{state, sequence}
use Rattle.goose_publish.proofs.ScheduleLemmas.{Passed-start}
use Rattle.goose_publish.proofs.schedule.Schedule.new.Goals as goal

pub returns : goal.returns
unfolding newest_where state sequence
returns c = record {
  rises = tt;
  last = refl;
  change = refl;
  state = refl;
  sequence = refl;
  pace = Passed-start c.args.common.now c.new.result c.new.ensures;
}
