use Rattle.std.proofs.Common.{◌+◌, ◌^◌, lit≤}
use Rattle.relay_num.proofs.Wide.{IsBelow-weaker}
use Rattle.sequence_parts.proofs.SequenceLemmas.{turned_below, turned_back_below, sum_below}
use Rattle.sequence_parts.proofs.parts.Goals as goal

pub added-requires-2-clause-b : goal.added-requires-2-clause-b
added-requires-2-clause-b c = rw c.times_a.ensures (IsBelow-weaker _ _ (2 ^ 60) (turned_below c.args.b c.requires.b) (lit≤ tt))

pub added-requires-2-clause-c : goal.added-requires-2-clause-c
added-requires-2-clause-c c = rw c.times_a2.ensures (IsBelow-weaker _ _ (2 ^ 60) (turned_back_below c.args.c c.requires.c) (lit≤ tt))

pub added-requires-3-clause-b : goal.added-requires-3-clause-b
added-requires-3-clause-b c = rw c.times_a2-2.ensures (IsBelow-weaker _ _ (2 ^ 60) (turned_back_below c.args.b c.requires.b) (lit≤ tt))

pub added-requires-3-clause-c : goal.added-requires-3-clause-c
added-requires-3-clause-c c = rw c.times_a-2.ensures (IsBelow-weaker _ _ (2 ^ 60) (turned_below c.args.c c.requires.c) (lit≤ tt))

pub returns-clause-zero : goal.returns-clause-zero
returns-clause-zero c = rw c.added.ensures (sum_below c.args.a c.args.b c.args.c (2 ^ 30 + 1) (2 ^ 30 + 1) c.requires.a c.requires.b c.requires.c (lit≤ tt))

pub returns-clause-plus : goal.returns-clause-plus
returns-clause-plus c = rw (c.added-2.ensures, c.times_a.ensures, c.times_a2.ensures) (sum_below c.args.a _ _ (2 ^ 30 + 2 ^ 28 + 2 ^ 27) (2 ^ 30 + 2 ^ 28 + 2 ^ 27) c.requires.a (turned_below c.args.b c.requires.b) (turned_back_below c.args.c c.requires.c) (lit≤ tt))

pub returns-clause-minus : goal.returns-clause-minus
returns-clause-minus c = rw (c.added-3.ensures, c.times_a-2.ensures, c.times_a2-2.ensures) (sum_below c.args.a _ _ (2 ^ 30 + 2 ^ 28 + 2 ^ 27) (2 ^ 30 + 2 ^ 28 + 2 ^ 27) c.requires.a (turned_back_below c.args.b c.requires.b) (turned_below c.args.c c.requires.c) (lit≤ tt))
