use Rattle.std.proofs.Common.{ℕ, ◌≡◌, ◌+◌, ◌<◌, ◌==◌, ◌∙◌, sym, min, cond, leb, Bool, true, false, arith, if◌then◌else◌, List, ◌∷◌}
use Rattle.std.proofs.lemmas.Bool.Decides.{nat_tests}
use Rattle.std.specs.List.{prefix_len}
use Rattle.sample_windows.proofs.WindowLemmas.{each_of_last-run}
use Rattle.zone_timers.specs.ZoneMasks.{has_loop}
use Rattle.zone_timers.specs.Operate.{delay_of, operates}
use Rattle.zone_timers.specs.KeptTimers.{StandsFor, lane}
use Rattle.zone_timers.proofs.OperateLemmas.{zone_masks-same}
use Rattle.zone_timers.proofs.StillLemmas.{still_masks, still_run}
use Rattle.zone_timers.proofs.Timers.take.Goals as goal

-- a count up to n has come to n exactly where the run is at least n long
ended : (run count n : ℕ) → count ≡ min run n → (count == n) ≡ leb n run
ended run count n e = grind (arith, nat_tests)

next : (b : Bool) (run old new n : ℕ) → old ≡ min run n → new ≡ (if b then min (old + 1) n else 0) → new ≡ min (cond b (1 + run) 0) n
next true run old new n e f = omega arith
next false run old new n e f = omega arith

module _ (c : goal.After-self-1) (ground_delays phase_delays : List ℕ) (takes : List (List ℕ)) (stands : StandsFor ground_delays phase_delays takes c.args.self.now) where
  runs_next : (zone lp : ℕ) → zone < 5 → lp < 6 → lane c.take_zones.new.runs zone lp ≡
      min (prefix_len (has_loop zone lp) (c.args.inside.now ∷ takes)) (delay_of ground_delays phase_delays zone lp + 1)
  runs_next zone lp z l =
      next (has_loop zone lp c.args.inside.now) _ _ _ _ (stands.runs zone lp z l) (rw (stands.ends zone lp z l) at (c.take_zones.ensures.runs zone lp z l))

pub returns-clause-operated : goal.returns-clause-operated
returns-clause-operated c ground_delays phase_delays takes stands =
    c.take_zones.ensures.ended
    ∙ zone_masks-same (λ zone lp. lane c.take_zones.new.runs zone lp == lane c.args.self.now.ends zone lp)
    (λ zone lp. operates ground_delays phase_delays zone lp (c.args.inside.now ∷ takes)) (λ zone lp z l.
    rw (stands.ends zone lp z l) (ended _ _ _ (runs_next c ground_delays phase_delays takes stands zone lp z l))
    ∙ sym (each_of_last-run (delay_of ground_delays phase_delays zone lp + 1) (has_loop zone lp) (c.args.inside.now ∷ takes)))

pub returns-clause-after : goal.returns-clause-after
returns-clause-after c ground_delays phase_delays takes stands =
    record { ends = stands.ends; runs = runs_next c ground_delays phase_delays takes stands }

pub returns-then-is_none-clause-operated : goal.returns-then-is_none-clause-operated
returns-then-is_none-clause-operated c ground_delays phase_delays takes stands =
    still_masks ground_delays phase_delays c.args.inside.now takes (c.is_none.ensures.0 c.if-is_none.true)

pub returns-then-is_none-clause-after : goal.returns-then-is_none-clause-after
returns-then-is_none-clause-after c ground_delays phase_delays takes stands =
    let cleared = c.clear.ensures ground_delays phase_delays takes stands in
    record {
      ends = cleared.ends;
      runs = λ zone lp z l. cleared.runs zone lp z l ∙ still_run c.args.inside.now takes zone lp (delay_of ground_delays phase_delays zone lp + 1) (c.is_none.ensures.0 c.if-is_none.true) z l;
    }
