use Rattle.std.proofs.Common.{◌≡◌, length}
use Rattle.comtrade_write.specs.Kept.{from_number}
use Rattle.comtrade_write.proofs.window.forget_before.Given as goal

abbrev pub invariant-loop-first : goal.invariant-loop-first
invariant-loop-first l = record {
  items : from_number l.low l.ring.items ≡ from_number l.low l.initial.ring.items;
  room : l.ring.capacity ≡ l.initial.ring.capacity;
}

abbrev pub decreases-loop-first : goal.decreases-loop-first
decreases-loop-first l = length l.ring.items
