use Rattle.std.proofs.Common.{sym}
use Rattle.supervise.proofs.FuseLemmas.{suspect_back-none}
use Rattle.supervise.proofs.fuse.Fuse.new.Goals as goal

pub returns : goal.returns
returns c = record { hold = c.samples_of.ensures; left = sym (suspect_back-none _) }
