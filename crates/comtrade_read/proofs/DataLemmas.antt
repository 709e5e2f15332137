-- Lines of the data that were read, one after another.
use Rattle.std.proofs.Common.{◌≡◌, ℕ, ◌+◌, ◌<◌, ◌≤◌, List, [], ◌∷◌, ◌++◌, append_assoc, length, refl, sym, ◌∙◌, ap, arith, length-append}
use Rattle.std.proofs.lemmas.List.{append-nil}
use Rattle.comtrade_read.specs.declared.data.PairSample.{PairSample}
use Rattle.comtrade_read.specs.Rows.{IsSample, AreSamples, row_text, rows_text, data_text}

-- these samples were read from the text up to what is left, and only they can have been
pub record SoFar (text : List ℕ) (count : ℕ) (items : List PairSample) (i least : ℕ) (left : List ℕ) : Type 0 where
  pub long : length items ≡ i
  pub times : (later : List PairSample) → AreSamples least later → AreSamples 0 (items ++ later)
  pub front : (later : List PairSample) (tail : List ℕ) → left ≡ rows_text (i + 1) later ++ tail → text ≡ rows_text 1 (items ++ later) ++ tail
  pub only : (all : List PairSample) → AreSamples 0 all → text ≡ data_text all → length all ≡ count
      → (later : List PairSample) × (all ≡ items ++ later) × AreSamples least later × (left ≡ rows_text (i + 1) later ++ 26 ∷ [])

pub begun : (text : List ℕ) (count : ℕ) → SoFar text count [] 0 0 text
begun text count = record {
  long = refl;
  times = λ later h. h;
  front = λ later tail e. e;
  only = λ all times e long. (all, refl, times, e);
}

-- what a line says, and that it says nothing else
pub record Read (left : List ℕ) (i least : ℕ) (s : PairSample) (rest : List ℕ) : Type 0 where
  pub text : left ≡ row_text i s ++ rest
  pub late : least ≤ s.micros
  pub sample : IsSample s
  pub only : (t : PairSample) (tail : List ℕ) → least ≤ t.micros → IsSample t → left ≡ row_text i t ++ tail → (s ≡ t) × (rest ≡ tail)

-- while fewer than all were read, a line is left
pub record Next (all items : List PairSample) (i least : ℕ) (left : List ℕ) : Type 0 where
  pub next : PairSample
  pub later : List PairSample
  pub parts : all ≡ items ++ next ∷ later
  pub late : least ≤ next.micros
  pub sample : IsSample next
  pub ordered : AreSamples (next.micros + 1) later
  pub text : left ≡ row_text (i + 1) next ++ (rows_text (i + 1 + 1) later ++ 26 ∷ [])

next_of : (all items : List PairSample) (i least count : ℕ) (left : List ℕ) → length items ≡ i → length all ≡ count → i < count
    → ((later : List PairSample) × (all ≡ items ++ later) × AreSamples least later × (left ≡ rows_text (i + 1) later ++ 26 ∷ [])) → Next all items i least left
next_of all items i least count left long whole below ([], parts, ordered, e) = absurd (omega (arith, ap length parts, length-append items []))
next_of all items i least count left long whole below (t ∷ later, parts, ordered, e) = record {
  next = t;
  later = later;
  parts = parts;
  late = ordered.0;
  sample = ordered.1;
  ordered = ordered.2;
  text = e ∙ append_assoc (row_text (i + 1) t) (rows_text (i + 1 + 1) later) (26 ∷ []);
}

pub next_line : (text : List ℕ) (count : ℕ) (items : List PairSample) (i least : ℕ) (left : List ℕ) → SoFar text count items i least left → i < count
    → (all : List PairSample) → AreSamples 0 all → text ≡ data_text all → length all ≡ count → Next all items i least left
next_line text count items i least left so_far below all times is long =
    next_of all items i least count left so_far.long long below (so_far.only all times is long)

more_only : (text : List ℕ) (count : ℕ) (items : List PairSample) (i least : ℕ) (left : List ℕ) (s : PairSample) (rest : List ℕ)
    → SoFar text count items i least left → i < count → Read left (i + 1) least s rest
    → (all : List PairSample) → AreSamples 0 all → text ≡ data_text all → length all ≡ count
    → (later : List PairSample) × (all ≡ (items ++ s ∷ []) ++ later) × AreSamples (s.micros + 1) later × (rest ≡ rows_text (i + 1 + 1) later ++ 26 ∷ [])
more_only text count items i least left s rest so_far below read all times is long =
    let n = next_line text count items i least left so_far below all times is long in
    let same = read.only n.next (rows_text (i + 1 + 1) n.later ++ 26 ∷ []) n.late n.sample n.text in
    let ordered : AreSamples (s.micros + 1) n.later = rw same.0 n.ordered in
    (n.later, n.parts ∙ ap (λ t. items ++ t ∷ n.later) (sym same.0) ∙ sym (append_assoc items (s ∷ []) n.later), ordered, same.1)

-- one more
pub more : (text : List ℕ) (count : ℕ) (items : List PairSample) (i least : ℕ) (left : List ℕ) (s : PairSample) (rest : List ℕ)
    → SoFar text count items i least left → i < count → Read left (i + 1) least s rest → SoFar text count (items ++ s ∷ []) (i + 1) (s.micros + 1) rest
more text count items i least left s rest so_far below read = record {
  long = omega (arith, length-append items (s ∷ []), so_far.long);
  times = λ later h. rw (append_assoc items (s ∷ []) later) (so_far.times (s ∷ later) (read.late, read.sample, h));
  front = λ later tail e. rw (append_assoc items (s ∷ []) later)
      (so_far.front (s ∷ later) tail (read.text ∙ ap (λ r. row_text (i + 1) s ++ r) e ∙ sym (append_assoc (row_text (i + 1) s) (rows_text (i + 1 + 1) later) tail)));
  only = more_only text count items i least left s rest so_far below read;
}

-- all were read where the end of the file is left
pub whole : (text : List ℕ) (count : ℕ) (items : List PairSample) (least : ℕ) (left : List ℕ) → SoFar text count items count least left → left ≡ 26 ∷ []
    → (length items ≡ count) × AreSamples 0 items × (text ≡ data_text items)
whole text count items least left so_far end =
    (so_far.long, rw append-nil at (so_far.times [] tt), rw append-nil at (so_far.front [] (26 ∷ []) end))

none_left : (all items later : List PairSample) → length items ≡ length all → all ≡ items ++ later → later ≡ []
none_left all items [] long parts = refl
none_left all items (t ∷ later) long parts = absurd (omega (arith, ap length parts, length-append items (t ∷ later)))

-- and then they are the samples, and the end of the file is left
pub whole_only : (text : List ℕ) (count : ℕ) (items : List PairSample) (least : ℕ) (left : List ℕ) → SoFar text count items count least left
    → (all : List PairSample) → AreSamples 0 all → text ≡ data_text all → length all ≡ count → (items ≡ all) × (left ≡ 26 ∷ [])
whole_only text count items least left so_far all times is long =
    let n = so_far.only all times is long in
    let none = none_left all items n.0 (so_far.long ∙ sym long) n.1 in
    (sym (n.1 ∙ ap (λ l. items ++ l) none ∙ append-nil items), n.3 ∙ ap (λ l. rows_text (count + 1) l ++ 26 ∷ []) none)
