use Rattle.std.proofs.Common.{◌≡◌, ◌+◌, ◌∙◌, arith, add-one, length, drop}
use Rattle.std.proofs.lemmas.Slice.{between_to_end}
use Rattle.comtrade_read.proofs.FieldLemmas.{parts_at, no_end, free_front}
use Rattle.comtrade_read.proofs.field.field.Goals as goal

pub returns-then-byte-end-clause-complete : goal.returns-then-byte-end-clause-complete
returns-then-byte-end-clause-complete c bytes rest free is =
    let parts = parts_at c.args.text.now c.args.end bytes rest c.loop-i.i free is c.if-byte-end.true c.loop-i.invariant in
    let behind : drop (c.loop-i.i + 1) c.args.text.now ≡ rest = rw add-one parts.1 in
    (parts.0, between_to_end c.args.text.now (c.loop-i.i + 1) (length c.args.text.now) (omega arith) ∙ behind)

pub returns-clause-complete : goal.returns-clause-complete
returns-clause-complete c bytes rest free is =
    no_end c.args.text.now c.args.end bytes rest is (λ k lt. c.loop-i.invariant k (omega arith))

pub returns-then-byte-end-clause-free : goal.returns-then-byte-end-clause-free
returns-then-byte-end-clause-free c = free_front c.args.end c.args.text.now c.loop-i.i c.loop-i.invariant
