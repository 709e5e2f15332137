use Rattle.std.proofs.Common.{◌≡◌, ◌∷◌, ◌∙◌, true, false, refl, sym, ap}
use Rattle.drill.specs.DrillFrame.{frame_bytes}
use Rattle.drill.specs.Slots.{is_left_out}
use Rattle.drill.specs.PlannedFrames.{frames_at}
use Rattle.drill.specs.PlanLeft.{slots_left, frames_left}
use Rattle.drill.proofs.SlotLemmas.{frames_at-sent, frames_at-left_out}
use Rattle.drill.proofs.plan.Plan.frame.Goals as goal

pub returns-then-not-is_left_out-clause-next : goal.returns-then-not-is_left_out-clause-next
unfolding frames_left
returns-then-not-is_left_out-clause-next c given =
    let slot = c.in-Some.slot in
    let later = slots_left c.next_slot.new.self in
    let sent : is_left_out slot ≡ false = sym c.is_left_out.ensures ∙ c.if-not-is_left_out.true in
    let written : c.put_frame.new.out.items ≡ frame_bytes slot = rw (c.put_frame.ensures, c.loop-slot.invariant.empty) refl in
    sym c.loop-slot.invariant.left ∙ ap frames_at c.in-Some.ensures.0 ∙ frames_at-sent slot later sent ∙ ap (λ bytes. bytes ∷ frames_at later) (sym written)

pub loop-slot-preserved : goal.loop-slot-preserved
unfolding frames_left
loop-slot-preserved c =
    let slot = c.in-Some.slot in
    let left_out : is_left_out slot ≡ true = sym c.is_left_out.ensures ∙ c.if-not-is_left_out.false in
    record {
      left = sym (sym c.loop-slot.invariant.left ∙ ap frames_at c.in-Some.ensures.0 ∙ frames_at-left_out slot (slots_left c.next_slot.new.self) left_out);
      empty = c.loop-slot.invariant.empty;
    }

pub returns-clause-end : goal.returns-clause-end
unfolding frames_left frames_at
returns-clause-end c none =
    (sym c.loop-slot.invariant.left ∙ ap frames_at c.in_default.ensures.0, ap frames_at c.in_default.ensures.1, c.loop-slot.invariant.empty)
