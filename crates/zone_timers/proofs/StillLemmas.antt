-- A take at which nothing is inside ends each run, and nothing operates.
use Rattle.std.proofs.Common.{◌≡◌, ℕ, ◌+◌, ◌<◌, Bool, false, cond, leb, min, sym, ap, ◌∙◌, arith, List, [], ◌∷◌}
use Rattle.std.proofs.lemmas.Bool.{lt-leb}
use Rattle.std.specs.List.{prefix_len}
use Rattle.sample_windows.proofs.WindowLemmas.{each_of_last-run}
use Rattle.zone_timers.specs.ZoneMasks.{has_loop}
use Rattle.zone_timers.specs.Operate.{delay_of, operates, operated_masks}
use Rattle.zone_timers.proofs.OperateLemmas.{zone_masks-same, has_loop-zone_masks}

-- five masks without a bit
abbrev pub no_masks : List ℕ
no_masks = 0 ∷ 0 ∷ 0 ∷ 0 ∷ 0 ∷ []

none : (inside : List ℕ) (zone lp : ℕ) → inside ≡ no_masks → zone < 5 → lp < 6 → has_loop zone lp inside ≡ false
none inside zone lp is z l = rw is (has_loop-zone_masks (λ zone lp. false) zone lp z l)

no_run : (inside : List ℕ) (takes : List (List ℕ)) (zone lp : ℕ) → inside ≡ no_masks → zone < 5 → lp < 6 → prefix_len (has_loop zone lp) (inside ∷ takes) ≡ 0
no_run inside takes zone lp is z l = ap (λ (b : Bool). cond b (1 + prefix_len (has_loop zone lp) takes) 0) (none inside zone lp is z l)

pub still_run : (inside : List ℕ) (takes : List (List ℕ)) (zone lp n : ℕ) → inside ≡ no_masks → zone < 5 → lp < 6 →
    min (prefix_len (has_loop zone lp) []) n ≡ min (prefix_len (has_loop zone lp) (inside ∷ takes)) n
still_run inside takes zone lp n is z l = ap (λ k. min k n) (sym (no_run inside takes zone lp is z l))

pub still_masks : (ground_delays phase_delays : List ℕ) (inside : List ℕ) (takes : List (List ℕ)) → inside ≡ no_masks →
    no_masks ≡ operated_masks ground_delays phase_delays (inside ∷ takes)
still_masks ground_delays phase_delays inside takes is =
    zone_masks-same (λ zone lp. false) (λ zone lp. operates ground_delays phase_delays zone lp (inside ∷ takes)) (λ zone lp z l.
    sym (each_of_last-run (delay_of ground_delays phase_delays zone lp + 1) (has_loop zone lp) (inside ∷ takes)
    ∙ ap (λ k. leb (delay_of ground_delays phase_delays zone lp + 1) k) (no_run inside takes zone lp is z l)
    ∙ lt-leb (delay_of ground_delays phase_delays zone lp + 1) 0 (omega arith)))
