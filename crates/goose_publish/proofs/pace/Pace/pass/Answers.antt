use Rattle.std.proofs.Common.{◌≡◌, ◌∙◌, suc, sym, arith}
use Rattle.std.proofs.lemmas.Bool.{leb-true}
use Rattle.goose_publish.specs.Offsets.{step_ms, offset_ms}
use Rattle.goose_publish.proofs.OffsetLemmas.{step-next}
use Rattle.goose_publish.proofs.pace.Pace.pass.Goals as goal

pub loop-self-preserved : goal.loop-self-preserved
unfolding offset_ms
loop-self-preserved c = record {
  short = c.loop-self.invariant.short;
  going = λ common k at passed. let now = c.loop-self.invariant.going common k at passed in
      let step : c.min-self.result ≡ step_ms common (suc now.k) =
      omega (arith, step-next common now.k, c.min-self.ensures, now.at.heartbeat, now.at.step) in record {
        k = suc now.k;
        at = record {
          rate = now.at.rate;
          heartbeat = now.at.heartbeat;
          step = step;
          next = omega (arith, step, now.at.next, c.from.ensures);
        };
        passed = rw (← now.at.next, ← now.at.rate) (leb-true _ _ (sym c.is_within.ensures ∙ c.loop-self-test.true));
      };
}
