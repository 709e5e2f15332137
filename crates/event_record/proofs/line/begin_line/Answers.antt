use Rattle.std.proofs.Common.{◌≡◌, ap, arith, length}
use Rattle.event_record.proofs.Lengths.{length-place_text, length-decimal}
use Rattle.event_record.proofs.line.begin_line.Goals as goal

pub put_place-requires-clause-room : goal.put_place-requires-clause-room
put_place-requires-clause-room c =
    let empty : length c.new-out.result.items ≡ 0 = ap length c.new-out.ensures in
    omega (arith, length-place_text c.args.name.now c.args.at, length-decimal c.args.at.number (omega arith))

pub returns-clause-long : goal.returns-clause-long
returns-clause-long c =
    rw (c.put_place.ensures, c.new-out.ensures) (omega (arith, length-place_text c.args.name.now c.args.at, length-decimal c.args.at.number (omega arith)))
