-- The parts of what a format's reader tells that are the same in each format.
use Rattle.std.proofs.Common.{◌≡◌, ℕ, ◌+◌, ◌≤◌, ◌<◌, zero, suc, ◌⊎◌, inl, inr, Bool, List, [], ◌++◌, length, take, drop, min, IsTrue, append-nil, length-drop, take-append-drop, sym, ap, ◌∙◌, arith}
use Rattle.std.specs.Prelude.{Err}
use Rattle.std.proofs.lemmas.List.{drop-drop, drop-append-le, take-append-le}
use Rattle.std.proofs.lemmas.Grind.{common_steps}
use Rattle.std.proofs.Math.Seq.{drop-append_seam}
use Rattle.room_io.specs.Room.{RoomState, Rose}
use Rattle.capture_feed.specs.Numbers.{number, number_at}
use Rattle.capture_feed.specs.Records.{Records}
use Rattle.capture_feed.specs.Reads.{OnlyReads}
use Rattle.capture_feed.specs.Pieces.{Asks}
use Rattle.capture_feed.specs.declared.block.Block.{Block}
use Rattle.capture_feed.specs.declared.stop.FeedStop.TheVariants as stops
use Rattle.capture_feed.proofs.Handing.{none_by}

-- a number is read from its own bytes
pub number_at-prefix : (is_big : Bool) (at size : ℕ) (xs ys : List ℕ) → at + size ≤ length xs → number_at is_big at size (xs ++ ys) ≡ number_at is_big at size xs
number_at-prefix is_big at size xs ys h =
    let len = length-drop at xs in
    ap (λ bytes. number is_big size (take size bytes)) (drop-append-le at xs ys (omega arith)) ∙ ap (number is_big size) (take-append-le size (drop at xs) ys (omega arith))

pub whole_is : (whole read left : List ℕ) → whole ≡ read ++ left → left ≡ [] → whole ≡ read
whole_is whole read left e none = e ∙ (ap (λ xs. read ++ xs) none ∙ append-nil read)

pub short_whole : (whole read left : List ℕ) (k : ℕ) → whole ≡ read ++ left → left ≡ [] → length read < k → length whole < k
short_whole whole read left k e none short = let len = ap length (whole_is whole read left e none) in omega arith

pub either_way : (m n : ℕ) → (m ≤ n) ⊎ (n < m)
either_way zero n = inl (omega arith)
either_way (suc m) zero = inr (omega arith)
either_way (suc m) (suc n) = elim (either_way m n) [ inl h ↦ inl (omega arith) | inr h ↦ inr (omega arith) ]

take-take-min : (m n : ℕ) (l : List ℕ) → take m (take n l) ≡ take (min m n) l
take-take-min m n l = grind (arith, common_steps)

-- the captured bytes, `fixed` bytes behind the piece's first, are lent
pub lent : (most fixed at n : ℕ) (items left whole : List ℕ) → whole ≡ drop at items ++ left → fixed + min n most ≤ length (drop at items) → take (min n most) (drop (at + fixed) items) ≡ take most (take n (drop fixed whole))
lent most fixed at n items left whole e fits =
    let len = length-drop fixed (drop at items) in
    let same : min most n ≡ min n most = omega arith in
    let behind : drop fixed whole ≡ drop (at + fixed) items ++ left = ap (drop fixed) e ∙ (drop-append-le fixed (drop at items) left (omega arith) ∙ ap (λ xs. xs ++ left) (drop-drop fixed at items)) in
    let enough : min n most ≤ length (drop (at + fixed) items) = let k = ap length (drop-drop fixed at items) in omega arith in
    sym (take-take-min most n (drop fixed whole) ∙ (ap (λ k. take k (drop fixed whole)) same ∙ (ap (take (min n most)) behind ∙ take-append-le (min n most) (drop (at + fixed) items) left enough)))

-- what stands within a text isn't changed by what comes behind it
pub within-text : (n fixed : ℕ) (text more : List ℕ) → fixed + n ≤ length text → take n (drop fixed (text ++ more)) ≡ take n (drop fixed text)
within-text n fixed text more h =
    let len = length-drop fixed text in
    ap (take n) (drop-append-le fixed text more (omega arith)) ∙ take-append-le n (drop fixed text) more (omega arith)

-- what stands before the end of what was read isn't changed by what the block has behind it
pub before_end : (n at end : ℕ) (block items : List ℕ) → items ≡ take end block → at + n ≤ length items → take n (drop at block) ≡ take n (drop at items)
before_end n at end block items is h =
    ap (λ xs. take n (drop at xs)) (sym (take-append-drop end block))
    ∙ (within-text n at (take end block) (drop end block) (let len = ap length is in omega arith) ∙ ap (λ xs. take n (drop at xs)) (sym is))

pub behind_text : (n : ℕ) (text more : List ℕ) → length text ≡ n → drop n (text ++ more) ≡ more
behind_text n text more long = ap (λ k. drop k (text ++ more)) (sym long) ∙ drop-append_seam text more

-- a read failed
pub asks_fault : (before : List ℕ → Records) (after : ℕ → List ℕ → Records) (held read : List ℕ) (block : Block) {old new : RoomState} →
    OnlyReads old new → Rose old.capture.faults new.capture.faults → (IsTrue old.tells → held ++ old.capture.bytes ≡ read ++ new.capture.bytes) →
    (before read).bodies ≡ [] → Asks (λ left. before (held ++ left)) after block old new (Err stops.Fault)
asks_fault before after held read block reads rose e none = record {
  piece = tt;
  whole = tt;
  stop = (rose, λ told. none_by before held read (reads.took told) (e told) none);
}
