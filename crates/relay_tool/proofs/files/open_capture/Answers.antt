use Rattle.std.proofs.Common.{◌≡◌, ◌∙◌, [], arith, refl, sym, ap, subst, inl, inr}
use Rattle.std.specs.Prelude.{unwrap_or, Err}
use Rattle.room_io.proofs.Rooms.{OnlyAt-trans}
use Rattle.room_io.specs.Room.{Rose}
use Rattle.capture_feed.specs.declared.stop.FeedStop.TheVariants.{Fault}
use Rattle.capture_feed.specs.Left.{Begins, HasNoHeader}
use Rattle.relay_tool.proofs.Slots.{clash, told_at}
use Rattle.relay_tool.proofs.files.open_capture.Goals as goal

pub begin-requires : goal.begin-requires
begin-requires g c = record {
  fresh = c.requires.fresh;
  ready = (refl, c.in-Ok.ensures.ready);
}

pub returns-in-Err : goal.returns-in-Err
returns-in-Err g c = record {
  only = c.in-Err.ensures.only;
  named = c.in-Err.ensures.name;
  later = c.in-Err.ensures.cause.later;
  ready = tt;
  live = tt;
  begun = tt;
  end = record { rose = c.in-Err.ensures.cause.failed; taken = λ told ready. absurd (clash (sym ready ∙ c.in-Err.ensures.ready)) };
}

pub returns-in-Ok-begin : goal.returns-in-Ok-begin
returns-in-Ok-begin g c =
    let e = c.in-Ok-begin.ensures in record {
      only = OnlyAt-trans c.in-Ok.ensures.only e.reads.only;
      named = e.reads.stays.name ∙ c.in-Ok.ensures.name;
      later = let x = c.in-Ok.ensures.cause.later in let y = e.reads.later in omega arith;
      ready = e.reads.stays.ready ∙ c.in-Ok.ensures.ready;
      live = (e.live, e.limit ∙ c.requires.limit);
      begun = λ told. subst (λ whole. Begins c.begin.new.self whole (g.R.Room.state c.begin.new.room).capture.bytes)
          (sym (ap (λ o. unwrap_or o []) (c.in-Ok.ensures.bytes told))) (e.begins (told_at c.in-Ok.ensures.only told));
      end = tt;
    }

pub returns-in-NotCapture : goal.returns-in-NotCapture
returns-in-NotCapture g c =
    let e = rw c.in-NotCapture.is at c.in-Err-begin.ensures in record {
      only = OnlyAt-trans c.in-Ok.ensures.only e.reads.only;
      named = e.reads.stays.name ∙ c.in-Ok.ensures.name;
      later = let x = c.in-Ok.ensures.cause.later in let y = e.reads.later in omega arith;
      ready = tt;
      live = tt;
      begun = tt;
      end = λ told. subst (λ whole. HasNoHeader whole (g.R.Room.state c.begin.new.room).capture.bytes)
          (sym (ap (λ o. unwrap_or o []) (c.in-Ok.ensures.bytes told))) (e.not_capture refl (told_at c.in-Ok.ensures.only told));
    }

pub returns-in_default : goal.returns-in_default
returns-in_default g c =
    let e = c.in-Err-begin.ensures in
    let is_fault : c.in-Err-begin.stop ≡ Fault = elim e.kinds [ inl f ↦ f | inr n ↦ absurd (c.in_default.not-NotCapture n) ] in
    let r : Rose (g.R.Room.state c.open_in.new.self).capture.faults (g.R.Room.state c.begin.new.room).capture.faults = e.rose (ap Err is_fault) in
    record {
      only = OnlyAt-trans c.in-Ok.ensures.only e.reads.only;
      named = e.reads.stays.name ∙ c.in-Ok.ensures.name;
      later = let x = c.in-Ok.ensures.cause.later in let y = e.reads.later in omega arith;
      ready = tt;
      live = tt;
      begun = tt;
      end = record {
        rose = (let x = c.in-Ok.ensures.cause.later in omega arith);
        taken = λ told ready.
            let b = e.fault (ap Err is_fault) (told_at c.in-Ok.ensures.only told) in
            (b.prefix, b.short, ap (λ o. unwrap_or o []) (c.in-Ok.ensures.bytes told) ∙ b.is);
      };
    }
