use Rattle.std.proofs.Common.{◌≡◌, ◌+◌, ◌-◌, ◌≤◌, length, take, drop, ap, ◌∙◌, arith, length-drop}
use lib.Seq.{paste}
use Rattle.std.proofs.lemmas.List.Edits.{take-paste}
use Rattle.std.proofs.lemmas.Slice.{between_is}
use Rattle.capture_feed.proofs.block.Block.move_to_front.Goals as goal

pub returns-clause-held : goal.returns-clause-held
returns-clause-held c =
    let block = c.args.self.now in
    let items = block.bytes.items in
    let count = block.end - block.at in
    let same : count ≡ 0 + count = omega arith in
    let enough : count ≤ length (drop block.at items) = let len = length-drop block.at items in omega arith in
    ap (take count) c.copy_within.ensures.items
    ∙ (ap (λ n. take n (paste items 0 (drop block.at items) count)) same
    ∙ (take-paste items 0 (drop block.at items) count (omega arith) enough ∙ between_is items block.at block.end))
