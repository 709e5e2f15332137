-- How the places that a plan has left go on.
use Rattle.std.proofs.Common.{◌≡◌, ◌≤◌, ◌<◌, ℕ, suc, ◌+◌, ◌-◌, ◌*◌, true, false, List, [], ◌∷◌, ◌++◌, Option, refl, sym, ap, append_assoc, arith}
use Rattle.std.proofs.lemmas.List.{append-nil}
use Rattle.std.specs.Option.{option_to_list}
use Rattle.rand_core.specs.Steps.{first_words}
use Rattle.rand_pcg.specs.Lcg.{Lcg}
use Rattle.rand_pcg.specs.Pcg.{pcg32}
use Rattle.drill.specs.declared.slot.Kind.{Kind}
use Rattle.drill.specs.declared.slot.Line.TheVariants.{First, Second}
use Rattle.drill.specs.declared.slot.Slot.{Slot}
use Rattle.drill.specs.Slots.{kind_of, slot_of, pairs_from, second_of, slots_over, is_left_out}
use Rattle.drill.specs.DrawnWords.{words_from}
use Rattle.drill.specs.DrillFrame.{frame_bytes}
use Rattle.drill.specs.PlannedFrames.{frames_at}

pub no_pairs : (first second : Kind) (k : ℕ) → pairs_from first second k 0 ≡ []
unfolding pairs_from
no_pairs first second k = refl

pub one_pair : (first second : Kind) (k n : ℕ) →
    pairs_from first second k (suc n)
    ≡ slot_of First first (2 * k) ∷ slot_of Second second (2 * k) ∷ pairs_from first second (k + 1) n
unfolding pairs_from
one_pair first second k n = refl

-- two words of a generator whose steps gave these
two_words : {G : Type 0} (step : G → ℕ × G) (n : ℕ) (g g' g'' : G) (word word' : ℕ) →
    ◌≡◌ {A = ℕ × G} (word, g') (step g) → ◌≡◌ {A = ℕ × G} (word', g'') (step g') →
    first_words step (suc (suc n)) g ≡ word ∷ word' ∷ first_words step n g''
unfolding first_words
two_words step n g g' g'' word word' e e' = rw (← e, ← e') refl

slots_over-words : (n : ℕ) (g g' g'' : Lcg) (word word' : ℕ) →
    ◌≡◌ {A = ℕ × Lcg} (word, g') (pcg32 g) → ◌≡◌ {A = ℕ × Lcg} (word', g'') (pcg32 g') →
    slots_over (words_from (suc (suc n)) g) ≡ second_of (kind_of word) (kind_of word') ++ slots_over (words_from n g'')
unfolding slots_over
slots_over-words n g g' g'' word word' e e' = ap slots_over (two_words pcg32 n g g' g'' word word' e e')

-- where no pair of the second is left, the two words that are drawn begin the next
pub second_begins : (waiting : Option Slot) (first second : Kind) (pair seconds left : ℕ) (g g' g'' : Lcg) (word word' : ℕ) →
    2400 ≤ pair → seconds ≡ suc left →
    ◌≡◌ {A = ℕ × Lcg} (word, g') (pcg32 g) → ◌≡◌ {A = ℕ × Lcg} (word', g'') (pcg32 g') →
    option_to_list waiting ++ pairs_from (kind_of word) (kind_of word') 0 2400 ++ slots_over (words_from (2 * left) g'')
    ≡ option_to_list waiting ++ pairs_from first second pair (2400 - pair) ++ slots_over (words_from (2 * seconds) g)
second_begins waiting first second pair seconds left g g' g'' word word' over more e e' =
    let none : 2400 - pair ≡ 0 = omega arith in
    let twice : 2 * seconds ≡ suc (suc (2 * left)) = omega arith in
    sym (rw (none, twice, no_pairs first second pair, append-nil (option_to_list waiting), slots_over-words (2 * left) g g' g'' word word' e e')
    (sym (append_assoc (option_to_list waiting) (second_of (kind_of word) (kind_of word')) (slots_over (words_from (2 * left) g'')))))

-- a pair of the second is two places
pub pair_begins : (first second : Kind) (pair : ℕ) (later : List Slot) → pair < 2400 →
    pairs_from first second pair (2400 - pair) ++ later
    ≡ slot_of First first (2 * pair) ∷ (slot_of Second second (2 * pair) ∷ pairs_from first second (pair + 1) (2400 - (pair + 1))) ++ later
pair_begins first second pair later within =
    let next : 2400 - pair ≡ suc (2400 - (pair + 1)) = omega arith in
    rw (next, one_pair first second pair (2400 - (pair + 1))) refl

pub frames_at-left_out : (slot : Slot) (slots : List Slot) → is_left_out slot ≡ true → frames_at (slot ∷ slots) ≡ frames_at slots
unfolding frames_at
frames_at-left_out slot slots is = rw is refl

pub frames_at-sent : (slot : Slot) (slots : List Slot) → is_left_out slot ≡ false → frames_at (slot ∷ slots) ≡ frame_bytes slot ∷ frames_at slots
unfolding frames_at
frames_at-sent slot slots is = rw is refl

-- where neither a pair nor a second is left, nothing is
pub all_given : (first second : Kind) (pair seconds : ℕ) (g : Lcg) → 2400 ≤ pair → seconds ≡ 0 →
    pairs_from first second pair (2400 - pair) ++ slots_over (words_from (2 * seconds) g) ≡ []
unfolding slots_over first_words
all_given first second pair seconds g over last =
    let none : 2400 - pair ≡ 0 = omega arith in
    rw (none, last, no_pairs first second pair) refl
