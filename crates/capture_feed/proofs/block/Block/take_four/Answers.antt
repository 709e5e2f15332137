use Rattle.std.proofs.Common.{◌∷◌, [], ◌++◌, ◌<◌, length, take, append_assoc, arith, ap, sym, ◌∙◌}
use Rattle.std.proofs.Math.ListN.{length-set}
use Rattle.std.proofs.lemmas.List.{take_more_set}
use Rattle.capture_feed.specs.Block.{pending}
use Rattle.capture_feed.proofs.PieceLoops.{OnlyReads-trans, told_after}
use Rattle.capture_feed.proofs.block.Block.take_four.Goals as goal

pub returns-in-Ok-None-clause-reads : goal.returns-in-Ok-None-clause-reads
returns-in-Ok-None-clause-reads g c = OnlyReads-trans c.loop-i.invariant.reads c.next_byte.ensures.reads

pub returns-in-Err-clause-reads : goal.returns-in-Err-clause-reads
returns-in-Err-clause-reads g c = OnlyReads-trans c.loop-i.invariant.reads c.next_byte.ensures.reads

pub loop-i-preserved : goal.loop-i-preserved
loop-i-preserved g c =
    let i = c.loop-i.invariant in
    let some = rw c.in-Ok-Some.field-0-is at c.in-Ok-Some.ensures.some in
    let rest = pending c.next_byte.new.self ++ (g.R.Room.state c.next_byte.new.room).capture.bytes in
    let inside : c.loop-i.i < length c.loop-i.four = let n = i.long in omega arith in
    record {
      bytes = c.next_byte.ensures.bytes ∙ i.bytes;
      long = length-set _ _ _ ∙ i.long;
      reads = OnlyReads-trans i.reads c.next_byte.ensures.reads;
      taken = λ told.
          i.taken told
          ∙ (ap (λ xs. take c.loop-i.i c.loop-i.four ++ xs) (some (told_after i.reads told))
          ∙ (sym (append_assoc (take c.loop-i.i c.loop-i.four) (c.in-Ok-Some.byte ∷ []) rest)
          ∙ ap (λ xs. xs ++ rest) (sym (take_more_set c.loop-i.four c.loop-i.i c.in-Ok-Some.byte inside))));
    }
