use Rattle.std.proofs.Common.{◌++◌, ◌∙◌, List, reverse, sym, subst, ap, arith}
use Rattle.std.proofs.Math.ListN.{get_or-map}
use Rattle.std.proofs.lemmas.List.{length-map, take_all}
use Rattle.sv_frame.specs.Asdu.{PlainAsdu, plain_asdu, plain_asdus}
use Rattle.station.specs.KeptStation.{StandsFor}
use Rattle.relay_tool.specs.KeptTally.{Counts}
use Rattle.relay_tool.proofs.Hearing.{past-next}
use Rattle.relay_tool.proofs.tally.count_sets.Goals as goal

pub loop-set-preserved : goal.loop-set-preserved
loop-set-preserved g c =
    let next = λ (past : List PlainAsdu). past-next past (plain_asdus c.args.sets.now) c.loop-set.set-index (plain_asdu c.set-item.result) (plain_asdu c.set-item.result)
    (omega (arith, length-map c.args.sets.now plain_asdu, c.loop-set-test.true)) (get_or-map plain_asdu c.args.sets.now c.loop-set.set-index c.set-item.result ∙ ap plain_asdu (sym c.set-item.is)) in
    record {
      few = c.count_set.ensures.few;
      heard = c.count_set.ensures.heard ∙ (let h = c.loop-set.invariant.heard in omega arith);
      frames = c.count_set.ensures.frames ∙ c.loop-set.invariant.frames;
      stands = λ settings past stands. subst (λ p. StandsFor settings p c.count_set.new.station) (sym (next past)) (c.count_set.ensures.stands settings _ (c.loop-set.invariant.stands settings past stands));
      counts = λ settings past stands counts. subst (λ p. Counts settings p c.count_set.new.count) (sym (next past))
          (c.count_set.ensures.counts settings _ (c.loop-set.invariant.stands settings past stands) (c.loop-set.invariant.counts settings past stands counts));
    }

pub returns-clause-stands : goal.returns-clause-stands
returns-clause-stands g c settings past stands =
    subst (λ xs. StandsFor settings (reverse xs ++ past) c.loop-set.station) (take_all c.loop-set.set-index (plain_asdus c.args.sets.now) (omega (arith, length-map c.args.sets.now plain_asdu, c.loop-set-test.false)))
    (c.loop-set.invariant.stands settings past stands)

pub returns-clause-counts : goal.returns-clause-counts
returns-clause-counts g c settings past stands counts =
    subst (λ xs. Counts settings (reverse xs ++ past) c.loop-set.count) (take_all c.loop-set.set-index (plain_asdus c.args.sets.now) (omega (arith, length-map c.args.sets.now plain_asdu, c.loop-set-test.false)))
    (c.loop-set.invariant.counts settings past stands counts)
