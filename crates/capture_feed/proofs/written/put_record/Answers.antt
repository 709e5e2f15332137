use Rattle.std.proofs.Common.{rules, length}
use Rattle.byteorder.specs.Endian.{little_bytes}
use Rattle.capture_feed.proofs.RecordBytes.{five_pieces}
use Rattle.capture_feed.proofs.written.put_record.Goals as goal

pub returns : goal.returns
returns c =
    five_pieces c.args.out.now.items (little_bytes 4 c.args.seconds) (little_bytes 4 c.args.nanos) (little_bytes 4 (length c.args.frame.now)) (little_bytes 4 (length c.args.frame.now)) c.args.frame.now
    c.put_number.new.out.items c.put_number-2.new.out.items c.put_number-3.new.out.items c.put_number-4.new.out.items c.try_extend_from_slice.new.self.items
    c.put_number.ensures.items c.put_number-2.ensures.items c.put_number-3.ensures.items c.put_number-4.ensures.items (search rules)
