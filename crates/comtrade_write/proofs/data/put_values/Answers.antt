use Rattle.std.proofs.Common.{append_assoc}
use Rattle.std.proofs.lemmas.List.{append-nil}
use Rattle.comtrade_write.proofs.data.put_values.Goals as goal

pub returns-clause-bytes : goal.returns-clause-bytes
returns-clause-bytes c =
    rw (c.put_lane-6.ensures.bytes, c.put_lane-5.ensures.bytes, c.put_lane-4.ensures.bytes, c.put_lane-3.ensures.bytes, c.put_lane-2.ensures.bytes, c.put_lane.ensures.bytes) (simp (append_assoc, append-nil))
