use Rattle.std.proofs.Common.{◌≡◌, ℕ, ◌+◌, ◌-◌, ◌≤◌, List, ◌++◌, length, take, drop, length-take-le, append_assoc, sym, ap, ◌∙◌, arith, rules}
use Rattle.std.proofs.Math.Seq.{take-append-add}
use Rattle.std.proofs.lemmas.List.{drop-append-le, take-append-le, with_items_is, places}
use borrow.Rule.Slice.PartMut.{post_of}
use Rattle.capture_feed.proofs.block.Block.read_once.Goals as goal

-- what was read stands behind what was held
grown : (at end count : ℕ) (items piece rest : List ℕ) → at ≤ end → end ≤ length items → count ≤ length piece →
    drop at (take (end + count) (take end items ++ (piece ++ rest))) ≡ drop at (take end items) ++ take count piece
grown at end count items piece rest within inside most =
    let front = take end items in
    let long : length front ≡ end = length-take-le end items inside in
    ap (drop at) (ap (λ n. take (n + count) (front ++ (piece ++ rest))) (sym long) ∙ (take-append-add front (piece ++ rest) count ∙ ap (λ xs. front ++ xs) (take-append-le count piece rest most)))
    ∙ drop-append-le at front (take count piece) (omega arith)

pub returns-clause-left : goal.returns-clause-left
returns-clause-left g c = λ told.
    let block = c.args.self.now in
    let count = c.in_ok-count.count in
    let piece = c.read.new.buf in
    let items = c.deref_mut.result.now in
    let rest = post_of block.end (length items - block.end) items in
    let front = drop block.at (take block.end block.bytes.items) in
    let left = (g.R.Room.state c.read.new.self).capture.bytes in
    let same = c.deref_mut.ensures.value in
    let inside : block.end ≤ length items = let len = ap length same in omega arith in
    let now =
    ap (λ xs. drop block.at (take (block.end + count) xs)) (with_items_is block.bytes (take block.end items ++ (piece ++ rest)) (search (rules, places)))
    ∙ (grown block.at block.end count items piece rest (omega arith) inside c.in_ok-count.ensures.count ∙ ap (λ xs. drop block.at (take block.end xs) ++ take count piece) same) in
    ap (λ xs. front ++ xs) (c.in_ok-count.ensures.bytes told) ∙ (sym (append_assoc front (take count piece) left) ∙ ap (λ xs. xs ++ left) (sym now))
