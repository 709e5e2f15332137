-- How many frames there are, and how long each is.
use Rattle.std.proofs.Common.{◌≡◌, ◌≤◌, ℕ, zero, suc, ◌+◌, ◌*◌, ◌-◌, Bool, true, false, cond, not, List, [], ◌∷◌, ◌++◌, length, map, refl, ap, ◌∙◌, arith}
use Rattle.std.specs.Prelude.{count_by, filter}
use Rattle.std.specs.List.{All}
use Rattle.std.proofs.lemmas.List.{length-append, map-append}
use Rattle.std.proofs.lemmas.List.Sums.{sum_by-append}
use Rattle.std.proofs.lemmas.List.Elements.{filter-append, All-map}
use Rattle.rand_core.specs.Steps.{first_words}
use Rattle.drill.specs.declared.slot.Kind.{Kind}
use Rattle.drill.specs.declared.slot.Kind.TheVariants.{Fault, Gap, BadSample, Healthy}
use Rattle.drill.specs.declared.slot.Line.TheVariants.{First, Second}
use Rattle.drill.specs.declared.slot.Slot.{Slot}
use Rattle.drill.specs.Slots.{kind_of, is_gap, is_lost_at, is_left_out, slot_of, pairs_from, second_of, slots_over}
use Rattle.drill.specs.DrawnWords.{words_from, generator_of}
use Rattle.drill.specs.DrillFrame.{frame_bytes}
use Rattle.drill.specs.PlannedFrames.{frames_at, frames_of}
use Rattle.drill.proofs.SlotLemmas.{no_pairs, one_pair, frames_at-left_out, frames_at-sent}
use Rattle.drill.proofs.FrameLemmas.{length-frame_bytes}

-- ---- one place

kept_at : (slot : Slot) (slots : List Slot) (b : Bool) → is_left_out slot ≡ b →
    length (frames_at (slot ∷ slots)) + cond b 1 0 ≡ length (frames_at slots) + 1
kept_at slot slots true is = ap (λ f. length f + 1) (frames_at-left_out slot slots is)
kept_at slot slots false is = ap (λ f. length f + 0) (frames_at-sent slot slots is) ∙ omega arith

kept : (slot : Slot) (slots : List Slot) →
    length (frames_at (slot ∷ slots)) + cond (is_left_out slot) 1 0 ≡ length (frames_at slots) + 1
kept slot slots = kept_at slot slots (is_left_out slot) refl

-- ---- the pairs of a second

-- how many frames of a line's n pairs from the pair k on never come
lost : Kind → ℕ → ℕ → ℕ
lost kind k zero = 0
lost kind k (suc n) = cond (is_lost_at kind (2 * k)) 1 0 + lost kind (k + 1) n

pairs_kept : (first second : Kind) (k n : ℕ) →
    length (frames_at (pairs_from first second k n)) + (lost first k n + lost second k n) ≡ 2 * n
unfolding lost frames_at
pairs_kept first second k zero = rw (no_pairs first second k) refl
pairs_kept first second k (suc n) =
    let later = pairs_from first second (k + 1) n in
    let waiting = slot_of Second second (2 * k) in
    rw (one_pair first second k n)
    (omega (arith, kept (slot_of First first (2 * k)) (waiting ∷ later), kept waiting later, pairs_kept first second (k + 1) n))

lost_of : Kind → ℕ
lost_of kind = cond (is_gap kind) 2 0

lost_in_second : (kind : Kind) → lost kind 0 2400 ≡ lost_of kind
unfolding lost lost_of
lost_in_second Fault = refl
lost_in_second Gap = refl
lost_in_second BadSample = refl
lost_in_second Healthy = refl

second_kept : (first second : Kind) → length (frames_at (second_of first second)) + (lost_of first + lost_of second) ≡ 4800
second_kept first second = omega (arith, pairs_kept first second 0 2400, lost_in_second first, lost_in_second second)

-- ---- all words

frames_at-append : (xs ys : List Slot) → frames_at (xs ++ ys) ≡ frames_at xs ++ frames_at ys
unfolding frames_at
frames_at-append xs ys =
    ap (map frame_bytes) (filter-append (λ slot. not (is_left_out slot)) xs ys)
    ∙ map-append frame_bytes (filter (λ slot. not (is_left_out slot)) xs) (filter (λ slot. not (is_left_out slot)) ys)

twice_gap : (kind : Kind) → 2 * cond (is_gap kind) 1 0 ≡ lost_of kind
unfolding lost_of
twice_gap Fault = refl
twice_gap Gap = refl
twice_gap BadSample = refl
twice_gap Healthy = refl

-- the frames of a second and of what follows it
one_second : (first second : Kind) (later : List Slot) (gaps all seconds : ℕ) →
    all ≡ 0 + cond (is_gap first) 1 0 + cond (is_gap second) 1 0 + gaps →
    length (frames_at later) + 2 * gaps ≡ 4800 * (seconds - 1) → 1 ≤ seconds →
    length (frames_at (second_of first second ++ later)) + 2 * all ≡ 4800 * seconds
one_second first second later gaps all seconds counted left some =
    let joined : length (frames_at (second_of first second ++ later)) ≡ length (frames_at (second_of first second)) + length (frames_at later) =
    ap length (frames_at-append (second_of first second) later) ∙ length-append (frames_at (second_of first second)) (frames_at later) in
    omega (arith, joined, second_kept first second, twice_gap first, twice_gap second)

abbrev gap_word : ℕ → Bool
gap_word word = is_gap (kind_of word)

words_kept : (words : List ℕ) (seconds : ℕ) → length words ≡ 2 * seconds →
    length (frames_at (slots_over words)) + 2 * count_by (λ word. is_gap (kind_of word)) words ≡ 4800 * seconds
unfolding slots_over frames_at
words_kept [] seconds long = omega arith
words_kept (word ∷ []) seconds long = absurd (omega arith)
words_kept (word ∷ word' ∷ words) seconds long =
    one_second (kind_of word) (kind_of word') (slots_over words) (count_by gap_word words) _ seconds
    (sum_by-append (λ w. cond (gap_word w) 1 0) (word ∷ word' ∷ []) words)
    (words_kept words (seconds - 1) (omega arith)) (omega arith)

length-first_words : {G : Type 0} (step : G → ℕ × G) (n : ℕ) (g : G) → length (first_words step n g) ≡ n
unfolding first_words
length-first_words step zero g = refl
length-first_words step (suc n) g = omega (arith, length-first_words step n (step g).1)

pub how_many : (seed seconds : ℕ) →
    length (frames_of seed seconds) + 2 * count_by (λ word. is_gap (kind_of word)) (words_from (2 * seconds) (generator_of seed)) ≡ 4800 * seconds
unfolding frames_of
how_many seed seconds = words_kept (words_from (2 * seconds) (generator_of seed)) seconds (length-first_words _ (2 * seconds) (generator_of seed))

pub how_long : (seed seconds : ℕ) → All (λ frame. length frame ≡ 205) (frames_of seed seconds)
unfolding frames_of frames_at
how_long seed seconds = All-map (λ frame. length frame ≡ 205) frame_bytes _ (λ k d h. length-frame_bytes _)
