-- The places of a drill's frames: what each second of each line is like, as a rule of this product's own.
use Rattle.std.specs.Prelude.{ℕ, ◌*◌, ◌%◌, ◌==◌, Bool, true, false, ◌&&◌, ◌||◌, nat_le, if◌then◌else◌, List, [], ◌∷◌, ◌++◌, codes}
use Rattle.std.specs.List.{flat_map, range_with_len}
use Rattle.drill.specs.declared.slot.Line.{Line}
use Rattle.drill.specs.declared.slot.Line.TheVariants.{First, Second}
use Rattle.drill.specs.declared.slot.Kind.{Kind}
use Rattle.drill.specs.declared.slot.Kind.TheVariants.{Fault, Gap, BadSample, Healthy}
use Rattle.drill.specs.declared.slot.Slot.{Slot}

-- the svID of a line's samples
unfoldable pub sv_id_of : Line → List ℕ
sv_id_of First = codes "MU01"
sv_id_of Second = codes "MU02"

-- what a second of a line is like, by the word that was drawn for it
abbrev pub kind_of : ℕ → Kind
kind_of word = if word % 4 == 0 then Fault else if word % 4 == 1 then Gap else if word % 4 == 2 then BadSample else Healthy

-- whether a sample lies in the fault: half a second, from a quarter of a cycle into the sixteenth one
abbrev pub is_fault_at : Kind → ℕ → Bool
is_fault_at Fault counter = nat_le 1464 counter && nat_le counter 3863
is_fault_at _ counter = false

-- the quality word of a sample's IA
abbrev pub quality_at : Kind → ℕ → ℕ
quality_at BadSample counter = if counter == 2000 then 1 else 0
quality_at _ counter = 0

-- whether two frames of such a second never come
abbrev pub is_gap : Kind → Bool
is_gap Gap = true
is_gap _ = false

-- whether a frame never comes
abbrev pub is_lost_at : Kind → ℕ → Bool
is_lost_at Gap counter = counter == 1000 || counter == 1002
is_lost_at _ counter = false

abbrev pub is_left_out : Slot → Bool
is_left_out slot = is_lost_at slot.kind slot.counter

abbrev pub slot_of : Line → Kind → ℕ → Slot
slot_of line kind counter = record { line = line; kind = kind; counter = counter }

-- the two frames with the pair k of a second's samples, which have the counters 2k and 2k + 1
abbrev pub pair_at : Kind → Kind → ℕ → List Slot
pair_at first second k = slot_of First first (2 * k) ∷ slot_of Second second (2 * k) ∷ []

-- the frames of n pairs from the pair k on
unfoldable pub pairs_from : Kind → Kind → ℕ → ℕ → List Slot
pairs_from first second k n = flat_map (pair_at first second) (range_with_len k n)

-- a second has 4800 samples
abbrev pub second_of : Kind → Kind → List Slot
second_of first second = pairs_from first second 0 2400

-- the seconds of the words, of which each second has two
unfoldable pub slots_over : List ℕ → List Slot
slots_over (first ∷ second ∷ words) = second_of (kind_of first) (kind_of second) ++ slots_over words
slots_over (first ∷ []) = []
slots_over [] = []
