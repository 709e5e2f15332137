use Rattle.std.proofs.Common.{◌≡◌, ◌+◌, ◌∙◌, ◌∷◌, ℕ, List, refl, sym, ap, arith, length, []}
use Rattle.drill.specs.PlanLeft.{frames_left}
use Rattle.relay_tool.proofs.Counting.{counts-begin}
use Rattle.relay_tool.proofs.Drilling.{heard-none, heard-next, drilled-next, drilled-short}
use Rattle.relay_tool.proofs.exercise.run_plan.Goals as goal

pub frames-init : goal.frames-init
frames-init g c = record {
  done = record { done = []; is = refl; count = refl };
  counted = c.requires.frames;
  heard = let h = c.requires.heard in omega arith;
  few = record { events = omega arith; sends = omega arith; trips = omega arith };
  told = λ settings stands. heard-none settings (frames_left c.args.plan.now) c.args.station.now _ stands (counts-begin settings _ refl refl refl);
}

pub frames-preserved : goal.frames-preserved
frames-preserved g c =
    let i = c.frames.invariant in
    let frame : List ℕ = c.as_slice.result.now in
    let left = c.frame.ensures.next c.frames-test.true ∙ ap (λ (x : List ℕ). x ∷ frames_left c.frame.new.self) (sym c.as_slice.ensures.value) in
    let long : length frame ≡ 205 = drilled-short (frames_left c.args.plan.now) c.frames.frames (frames_left c.frames.plan) (frames_left c.frame.new.self) frame left i.done c.requires.short in
    record {
      done = drilled-next (frames_left c.args.plan.now) c.frames.frames (frames_left c.frames.plan) (frames_left c.frame.new.self) frame left i.done;
      counted = c.count_frame.ensures.frames ∙ ap (λ n. n + 1) i.counted;
      heard = let h = c.count_frame.ensures.heard in let m = i.heard in omega arith;
      few = c.count_frame.ensures.few;
      told = λ settings stands.
          heard-next settings (frames_left c.args.plan.now) (frames_left c.frames.plan) (frames_left c.frame.new.self) frame c.frames.station c.count_frame.new.station c.frames.count c.count_frame.new.count left (omega arith)
          (i.told settings stands) (c.count_frame.ensures.stands settings) (c.count_frame.ensures.counts settings);
    }
