use Rattle.std.proofs.Common.{◌∙◌, rules}
use Rattle.capture_feed.proofs.PieceLoops.{OnlyReads-trans, told_after}
use Rattle.capture_feed.proofs.block.Block.read_until.Goals as goal

pub loop-self-preserved : goal.loop-self-preserved
loop-self-preserved g c = record {
  front = c.read_once.ensures.at ∙ c.loop-self.invariant.front;
  reads = OnlyReads-trans c.loop-self.invariant.reads c.read_once.ensures.reads;
  left = λ told. c.loop-self.invariant.left told ∙ c.read_once.ensures.left (told_after c.loop-self.invariant.reads told);
}

pub returns-then-branch-eq0 : goal.returns-then-branch-eq0
returns-then-branch-eq0 g c = record {
  left = λ told. c.loop-self.invariant.left told ∙ c.read_once.ensures.left (told_after c.loop-self.invariant.reads told);
  end = search rules;
  short = search rules;
  reads = OnlyReads-trans c.loop-self.invariant.reads c.read_once.ensures.reads;
  failed = search rules;
}

pub returns-in_err-read_once : goal.returns-in_err-read_once
returns-in_err-read_once g c = record {
  left = λ told. c.loop-self.invariant.left told ∙ c.read_once.ensures.left (told_after c.loop-self.invariant.reads told);
  end = search rules;
  short = search rules;
  reads = OnlyReads-trans c.loop-self.invariant.reads c.read_once.ensures.reads;
  failed = search rules;
}
