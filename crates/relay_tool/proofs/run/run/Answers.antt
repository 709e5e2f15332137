use Rattle.std.proofs.Common.{◌∙◌, refl, sym, subst, ap, arith, inr}
use Rattle.std.specs.Prelude.{Result}
use Rattle.room_io.specs.Room.{SlotState}
use Rattle.room_io.specs.declared.room.Slot.TheVariants.{Capture, Log}
use Rattle.std.proofs.lemmas.Result.{err_from_is_err_and}
use Rattle.capture_feed.specs.Records.{Whole}
use Rattle.capture_feed.specs.Left.{found}
use Rattle.relay_tool.specs.declared.run.Stopped.TheVariants as stopped
use Rattle.relay_tool.specs.Running.{Runs}
use Rattle.relay_tool.specs.Making.{is_worked}
use Rattle.relay_tool.specs.declared.put.Failed.{Failed}
use Rattle.relay_tool.specs.declared.run.Stopped.{Stopped}
use Rattle.relay_tool.proofs.Writing.{OnlyUses-refl, OnlyUses-trans}
use Rattle.relay_tool.proofs.Treating.{works-writes, works-reads, treated-none, treated-next, treated-stopped, treated-finished, treated-halted, same-place}
use Rattle.relay_tool.proofs.run.run.Goals as goal

pub records-init : goal.records-init
records-init g c = record {
  live = c.requires.live;
  capture = c.requires.capture;
  log = c.requires.log;
  open_outputs = c.requires.open;
  counted = omega arith;
  heard = let h = c.requires.heard in omega arith;
  only = OnlyUses-refl is_worked _;
  treated = λ tells stands. treated-none _ tells _ _ _ stands;
}

pub records-preserved : goal.records-preserved
records-preserved g c =
    let h = rw (c.in-Ok.is, c.in-Some.is) at c.next.follows.holds-at-none in
    let k = c.in-Ok.ensures.asks.reads in
    let hands = h.1.1.1 in
    let i = c.records.invariant in
    let only = c.treat.ensures.treats.only in
    record {
      live = h.1.0.0;
      capture = (refl, (only.each Capture).ready ∙ (k.stays.ready ∙ i.capture.1));
      log = (refl, (only.each Log).ready ∙ ((works-reads k.only k.stays k.later).each Log).ready ∙ i.log.1);
      open_outputs = λ slot is. let o = i.open_outputs slot is in (o.0, (only.each slot).ready ∙ ((works-reads k.only k.stays k.later).each slot).ready ∙ o.1);
      counted = let t = hands.taken in let n = i.counted in omega arith;
      heard = let n = c.treat.ensures.counted in let m = i.heard in omega arith;
      only = OnlyUses-trans (OnlyUses-trans i.only (works-reads k.only k.stays k.later)) (works-writes only);
      treated = λ tells stands.
          let t = i.treated tells stands in
          same-place (ap (λ (s : SlotState). s.bytes) (only.others Capture refl))
          (treated-next tells _ _ (g.B.Bank.stands c.treat.new.bank tells) t i.only k.only hands.gives
          (c.in_ok-treat-in-Some.ensures.treats.made tells t.past t.stands).all
          (c.in_ok-treat-in-Some.ensures.treats.stands tells t.past t.stands));
    }

pub returns-in_err-treat-in-Some : goal.returns-in_err-treat-in-Some
returns-in_err-treat-in-Some g c tells stands =
    let h = rw (c.in-Ok.is, c.in-Some.is) at c.next.follows.holds-at-none in
    let k = c.in-Ok.ensures.asks.reads in
    let hands = h.1.1.1 in
    let i = c.records.invariant in
    let t = i.treated tells stands in
    let made = c.in_err-treat-in-Some.ensures.treats.made tells t.past t.stands in
    let p = err_from_is_err_and c.from_residual.result c.from_residual.ensures.1 in
    rw (p.1, p.2) (record {
      only = OnlyUses-trans (OnlyUses-trans i.only (works-reads k.only k.stays k.later)) (works-writes made.only);
      stops = tt;
      end = inr (treated-stopped tells _ _ (g.R.Room.state c.treat.new.room) c.in_err-treat-in-Some.field-0.0.slot t i.only k.only (works-reads k.only k.stays k.later) hands.gives made.end);
    })

pub returns-in-None : goal.returns-in-None
returns-in-None g c tells stands =
    let k = rw (c.in-None.is) at c.in-Ok.ensures.asks in
    let i = c.records.invariant in
    record {
      only = OnlyUses-trans i.only (works-reads k.reads.only k.reads.stays k.reads.later);
      stops = treated-finished tells _ _ Whole stopped.Whole (i.treated tells stands) i.only k.reads.only k.whole refl;
      end = tt;
    }

pub returns-in-Err : goal.returns-in-Err
returns-in-Err g c tells stands =
    let e = c.in-Err.ensures.asks in
    let i = c.records.invariant in
    subst (λ (r : Result Stopped Failed). Runs tells (found c.args.feed.now) (g.R.Room.state c.args.room.now) (g.R.Room.state c.next.new.room) r) (sym c.ended_by.ensures)
    (treated-halted tells _ _ (g.R.Room.state c.next.new.room) c.in-Err.stop refl refl (i.treated tells stands) i.only e.reads.only
    (OnlyUses-trans i.only (works-reads e.reads.only e.reads.stays e.reads.later)) e.stop)
