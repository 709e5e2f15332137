use Rattle.std.proofs.Common.{◌∙◌, refl, sym, subst, arith}
use Rattle.std.specs.Prelude.{Result}
use Rattle.room_io.specs.declared.room.Slot.TheVariants.{Capture}
use Rattle.room_io.proofs.Rooms.{OnlyAt-refl, OnlyAt-trans, Stays-refl, Stays-trans}
use Rattle.capture_feed.specs.Records.{Whole}
use Rattle.capture_feed.specs.Left.{found}
use Rattle.comtrade_write.specs.KeptRecorder.{StandsFor}
use Rattle.relay_tool.specs.Listening.{Listens}
use Rattle.relay_tool.specs.declared.put.Failed.{Failed}
use Rattle.relay_tool.specs.declared.run.Stopped.{Stopped}
use Rattle.relay_tool.specs.declared.run.Stopped.TheVariants as stopped
use Rattle.relay_tool.proofs.Listening.{heeded-none, heeded-next, heeded-finished, heeded-halted}
use Rattle.relay_tool.proofs.listen.listen_all.Goals as goal

pub records-init : goal.records-init
records-init g c = record {
  live = c.requires.live;
  capture = c.requires.capture;
  counted = omega arith;
  heard = let h = c.requires.heard in omega arith;
  only = OnlyAt-refl Capture _;
  stays = Stays-refl _;
  later = omega arith;
  heeded = λ common settings k stands. heeded-none _ _ _ _ stands;
}

pub records-preserved : goal.records-preserved
records-preserved g c =
    let h = rw (c.in-Ok.is, c.in-Some.is) at c.next.follows.holds-at-none in
    let k = c.in-Ok.ensures.asks.reads in
    let hands = h.1.1.1 in
    let i = c.records.invariant in
    record {
      live = h.1.0.0;
      capture = (refl, k.stays.ready ∙ i.capture.1);
      counted = let t = hands.taken in let n = i.counted in omega arith;
      heard = let n = c.hear_frame.ensures.counted in let m = i.heard in omega arith;
      only = OnlyAt-trans i.only k.only;
      stays = Stays-trans i.stays k.stays;
      later = let a = i.later in let b = k.later in omega arith;
      heeded = λ common settings trip stands.
          let t = i.heeded common settings trip stands in
          heeded-next _ _ (λ past. StandsFor common settings trip past c.hear_frame.new.recorder) t i.only hands.gives (c.hear_frame.ensures.after common settings trip t.past t.stands);
    }

pub returns-in-None-clause-only : goal.returns-in-None-clause-only
returns-in-None-clause-only g c =
    let k = rw (c.in-None.is) at c.in-Ok.ensures.asks in
    OnlyAt-trans c.records.invariant.only k.reads.only

pub returns-in-None-clause-records : goal.returns-in-None-clause-records
returns-in-None-clause-records g c common settings trip stands =
    let k = rw (c.in-None.is) at c.in-Ok.ensures.asks in
    let i = c.records.invariant in
    record {
      only = OnlyAt-trans i.only k.reads.only;
      stays = Stays-trans i.stays k.reads.stays;
      later = let a = i.later in let b = k.reads.later in omega arith;
      past = (i.heeded common settings trip stands).past;
      stands = (i.heeded common settings trip stands).stands;
      stops = heeded-finished _ _ Whole stopped.Whole (i.heeded common settings trip stands) i.only k.whole refl;
      end = tt;
    }

pub returns-in-Err-clause-only : goal.returns-in-Err-clause-only
returns-in-Err-clause-only g c = OnlyAt-trans c.records.invariant.only c.in-Err.ensures.asks.reads.only

pub returns-in-Err-clause-records : goal.returns-in-Err-clause-records
returns-in-Err-clause-records g c common settings trip stands =
    let e = c.in-Err.ensures.asks in
    let i = c.records.invariant in
    subst (λ (r : Result Stopped Failed). Listens (λ past. StandsFor common settings trip past c.records.recorder) (found c.args.feed.now) (g.R.Room.state c.args.room.now) (g.R.Room.state c.next.new.room) r) (sym c.ended_by.ensures)
    (heeded-halted _ _ (g.R.Room.state c.next.new.room) c.in-Err.stop refl (i.heeded common settings trip stands) i.only (OnlyAt-trans i.only e.reads.only) (Stays-trans i.stays e.reads.stays) i.later e.reads.later e.stop)
