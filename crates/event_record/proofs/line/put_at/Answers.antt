use Rattle.std.proofs.Common.{arith, length-append}
use Rattle.event_record.specs.Line.{place_text}
use Rattle.event_record.proofs.Lengths.{length-place_text, length-decimal}
use Rattle.event_record.proofs.line.put_at.Goals as goal

pub put_place-requires-clause-room : goal.put_place-requires-clause-room
put_place-requires-clause-room c =
    omega (arith, length-place_text c.args.name.now c.in-Some.at, length-decimal c.in-Some.at.number (omega arith))

pub returns-in-Some-clause-long : goal.returns-in-Some-clause-long
returns-in-Some-clause-long c =
    rw (c.put_place.ensures, length-append c.args.out.now.items (place_text c.args.name.now c.in-Some.at))
    (omega (arith, length-place_text c.args.name.now c.in-Some.at, length-decimal c.in-Some.at.number (omega arith)))
