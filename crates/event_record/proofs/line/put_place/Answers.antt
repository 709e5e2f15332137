use Rattle.std.proofs.Common.{arith}
use Rattle.event_record.proofs.Lengths.{length-place_text}
use Rattle.event_record.proofs.line.put_place.Goals as goal

pub put_bytes-requires : goal.put_bytes-requires
put_bytes-requires c = omega (arith, length-place_text c.args.name.now c.args.at.now)

pub push-requires : goal.push-requires
push-requires c = omega (arith, length-place_text c.args.name.now c.args.at.now)

pub put_time-requires : goal.put_time-requires
put_time-requires c = omega (arith, length-place_text c.args.name.now c.args.at.now)
