use Rattle.std.proofs.Common.{sym}
use Rattle.supervise.proofs.FuseLemmas.{suspect_back-none}
use Rattle.supervise.proofs.fuse.Fuse.clear.Goals as goal

pub returns : goal.returns
returns c s rate takes stands = record { hold = stands.hold; left = sym (suspect_back-none _) }
