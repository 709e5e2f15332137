-- All frames of a drill, in order.
use Rattle.std.specs.Prelude.{ℕ, ◌*◌, not, List, map, filter}
use Rattle.drill.specs.declared.slot.Slot.{Slot}
use Rattle.drill.specs.DrawnWords.{generator_of, words_from}
use Rattle.drill.specs.Slots.{slots_over, is_left_out}
use Rattle.drill.specs.DrillFrame.{frame_bytes}

-- the frames of these places, without those that never come
unfoldable pub frames_at : List Slot → List (List ℕ)
frames_at slots = map frame_bytes (filter (λ slot. not (is_left_out slot)) slots)

-- One word is drawn for each second, first of line 1 and then of line 2.
unfoldable pub frames_of : ℕ → ℕ → List (List ℕ)
frames_of seed seconds = frames_at (slots_over (words_from (2 * seconds) (generator_of seed)))
