use Rattle.capture_feed.proofs.ReadsBack.{records-written}
use Rattle.capture_feed.proofs.written.show_written_reads_back.Goals as goal

pub returns : goal.returns
returns c = records-written
