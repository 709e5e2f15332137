use Rattle.std.proofs.Common.{append_assoc}
use Rattle.std.proofs.lemmas.List.{append-nil}
use Rattle.comtrade_write.specs.DataTexts.{data_text}
use Rattle.comtrade_write.proofs.data.data_text.Goals as goal

pub returns-then-last : goal.returns-then-last
unfolding data_text
returns-then-last c near =
    rw (
      c.push-then-last.ensures.items,
      c.put_bytes.ensures.bytes,
      c.push-5.ensures.items,
      c.flag-2.ensures,
      c.push-4.ensures.items,
      c.push-3.ensures.items,
      c.flag.ensures,
      c.put_values.ensures.bytes,
      c.push-2.ensures.items,
      c.put_number-2.ensures.bytes,
      c.micros.ensures.value near,
      c.push.ensures.items,
      c.put_number.ensures.bytes,
      c.new-out.ensures,
      c.if-last.true,
    )
    (simp append_assoc)

pub returns-else-last : goal.returns-else-last
unfolding data_text
returns-else-last c near =
    rw (
      c.put_bytes.ensures.bytes,
      c.push-5.ensures.items,
      c.flag-2.ensures,
      c.push-4.ensures.items,
      c.push-3.ensures.items,
      c.flag.ensures,
      c.put_values.ensures.bytes,
      c.push-2.ensures.items,
      c.put_number-2.ensures.bytes,
      c.micros.ensures.value near,
      c.push.ensures.items,
      c.put_number.ensures.bytes,
      c.new-out.ensures,
      c.if-last.false,
    )
    (simp (append_assoc, append-nil))
