use Rattle.std.proofs.Common.{◌+◌, sym, subst}
use Rattle.capture_feed.specs.Pieces.{left_by, Asks}
use Rattle.capture_feed.specs.declared.cursor.Cursor.{Cursor}
use Rattle.capture_feed.specs.declared.cursor.Cursor.TheVariants.{Pcap, Pcapng}
use Rattle.capture_feed.proofs.cursor.Cursor.next_piece.Goals as goal

pub returns-in-Pcap-clause-asks : goal.returns-in-Pcap-clause-asks
returns-in-Pcap-clause-asks g c = λ limit taken h.
    subst (λ (x : Cursor). Asks (left_by x c.args.block.now limit taken) (λ size. left_by (Pcap c.in-Pcap.is_big) c.next_record.new.block limit (taken + size)) c.next_record.new.block (g.R.Room.state c.args.room.now) (g.R.Room.state c.next_record.new.room) c.next_record.result)
    (sym c.in-Pcap.is) (c.next_record.ensures.asks limit taken h)

pub returns-in-Pcapng-clause-asks : goal.returns-in-Pcapng-clause-asks
returns-in-Pcapng-clause-asks g c = λ limit taken h.
    subst (λ (x : Cursor). Asks (left_by x c.args.block.now limit taken) (λ size. left_by (Pcapng c.next_block.new.section) c.next_block.new.block limit (taken + size)) c.next_block.new.block (g.R.Room.state c.args.room.now) (g.R.Room.state c.next_block.new.room) c.next_block.result)
    (sym c.in-Pcapng.is) (c.next_block.ensures.asks limit taken h)
