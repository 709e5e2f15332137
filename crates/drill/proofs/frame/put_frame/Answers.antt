use Rattle.drill.proofs.FrameLemmas.{frame_written}
use Rattle.drill.proofs.frame.put_frame.Goals as goal

pub returns : goal.returns
returns c =
    rw (c.put_set-2.ensures.bytes, c.put_set.ensures.bytes, c.put_head-2.ensures, c.put_text.ensures, c.put_head.ensures, c.put_bytes.ensures.bytes)
    (frame_written c.args.slot.now c.args.out.now.items)
