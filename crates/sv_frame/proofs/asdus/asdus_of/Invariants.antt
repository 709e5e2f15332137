use Rattle.std.proofs.Common.{◌≡◌, ◌+◌, ◌*◌, ◌≤◌, length, drop, true}
use Rattle.sv_frame.specs.Asdu.{plain_asdus}
use Rattle.sv_frame.specs.Sequence.{asdus_in_sequence}
use Rattle.sv_frame.proofs.SequenceLemmas.{said_of, so_far}
use Rattle.sv_frame.proofs.asdus.asdus_of.Given as goal

abbrev pub invariant-loop-left : goal.invariant-loop-left
invariant-loop-left g l = record {
  read : said_of l.left (drop l.at l.bytes) (so_far l.whole (plain_asdus l.found.items)) ≡ asdus_in_sequence l.count l.bytes;
  here : l.at ≤ length l.bytes;
  few : length l.found.items + l.left ≤ l.count;
  all : l.whole ≡ true → length l.found.items + l.left ≡ l.count;
  cost : l.steps + 17 * l.left ≤ l.fn.steps + 17 * l.count;
}

abbrev pub decreases-loop-left : goal.decreases-loop-left
decreases-loop-left g l = l.left
