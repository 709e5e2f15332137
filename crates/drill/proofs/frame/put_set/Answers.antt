use Rattle.drill.proofs.FrameLemmas.{set_written}
use Rattle.drill.proofs.frame.put_set.Goals as goal

pub returns-clause-bytes : goal.returns-clause-bytes
returns-clause-bytes c =
    rw (c.put_sample.ensures.bytes, c.put_head-2.ensures, c.put_text-4.ensures, c.put_text-3.ensures, c.put_text-2.ensures, c.put_text.ensures, c.put_head.ensures, c.sv_id.ensures.value, c.to_be_bytes.ensures, c.to_be_bytes-2.ensures)
    (set_written c.args.slot.now c.args.counter c.args.out.now.items)
