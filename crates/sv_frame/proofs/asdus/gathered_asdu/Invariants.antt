use Rattle.std.proofs.Common.{◌≡◌, ◌+◌, ◌-◌, ◌≤◌, length, drop}
use Rattle.sv_frame.specs.Asdu.{asdu_of}
use Rattle.sv_frame.specs.Views.{plain_fields}
use Rattle.sv_frame.proofs.GatherLemmas.{said_of}
use Rattle.sv_frame.proofs.asdus.gathered_asdu.Given as goal

abbrev pub invariant-loop-at : goal.invariant-loop-at
invariant-loop-at g l = record {
  read : said_of l.left (drop l.at l.text) (plain_fields l.fields) ≡ asdu_of l.text;
  here : l.at ≤ length l.text;
  cost : l.steps + l.left ≤ l.fn.steps + 16;
}

abbrev pub decreases-loop-at : goal.decreases-loop-at
decreases-loop-at g l = length l.text - l.at
