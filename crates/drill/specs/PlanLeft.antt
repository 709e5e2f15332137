-- What a plan has left.
use Rattle.std.specs.Prelude.{ℕ, ◌*◌, ◌-◌, List, ◌++◌}
use Rattle.std.specs.Option.{option_to_list}
use Rattle.drill.specs.declared.plan.Plan.{Plan}
use Rattle.drill.specs.declared.slot.Slot.{Slot}
use Rattle.drill.specs.DrawnWords.{words_from}
use Rattle.drill.specs.Slots.{pairs_from, slots_over}
use Rattle.drill.specs.PlannedFrames.{frames_at}

-- the places that are still to come: of the second line, of this second's pairs, and of the words not drawn yet
unfoldable pub slots_left : Plan → List Slot
slots_left plan =
    option_to_list plan.waiting
    ++ pairs_from plan.first plan.second plan.pair (2400 - plan.pair)
    ++ slots_over (words_from (2 * plan.seconds) plan.generator)

-- the frames that are still to come
unfoldable pub frames_left : Plan → List (List ℕ)
frames_left plan = frames_at (slots_left plan)
