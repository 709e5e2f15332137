use Rattle.std.proofs.Common.{append_assoc}
use Rattle.comtrade_write.specs.Moments.{moment_of}
use Rattle.comtrade_write.proofs.moment.put_moment.Goals as goal

pub returns-clause-bytes : goal.returns-clause-bytes
unfolding moment_of
returns-clause-bytes c =
    rw (c.put_fixed.ensures.bytes, c.push-2.ensures.items, c.put_clock.ensures.bytes, c.push.ensures.items, c.put_date.ensures.bytes, c.at_of-at.ensures.time) (simp append_assoc)
