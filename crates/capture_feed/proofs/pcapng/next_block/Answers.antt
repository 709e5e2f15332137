use Rattle.std.proofs.Common.{◌≡◌, ◌-◌, ◌++◌, ◌≤◌, ◌<◌, ◌&&◌, true, IsTrue, length, length-append, length-drop, length-take, take, vec_len, arith, append_assoc, sym, subst, ◌∙◌, ap}
use Rattle.room_io.proofs.ReadUpTo.{told_along}
use Rattle.room_io.specs.Room.{Rose}
use Rattle.capture_feed.specs.Numbers.{number_at}
use Rattle.capture_feed.specs.Records.{Whole, Cut, Damaged, records_from}
use Rattle.capture_feed.specs.Pcapng.{has_head, is_known, is_good, section_at, content, first_block}
use Rattle.capture_feed.specs.Sections.{plain_section}
use Rattle.capture_feed.specs.Block.{pending}
use Rattle.capture_feed.specs.Reads.{Passes}
use Rattle.capture_feed.proofs.PieceLoops.{OnlyReads-trans}
use Rattle.capture_feed.proofs.Handing.{none_by}
use Rattle.capture_feed.proofs.Asking.{asks_fault, short_whole, whole_is}
use Rattle.capture_feed.proofs.PcapngBlocks.{both, good-range, same_start, ends_whole, ends_cut_head, ends_damaged_head, begun}
use Rattle.capture_feed.proofs.PcapngRecords.{begun_by, cut_of, text_of, ends_as, no_block, no_whole_block, damaged_last, damaged_rule, gives_block, gives_as, within-none, sound_block}
use Rattle.capture_feed.proofs.pcapng.next_block.Goals as goal

pub returns-in-Err-clause-asks : goal.returns-in-Err-clause-asks
returns-in-Err-clause-asks g c = λ limit taken h.
    asks_fault (records_from first_block limit (plain_section c.args.section.now) taken) _ (pending c.args.block.now) (pending c.fill.new.self) _ c.fill.ensures.reads c.in-Err.ensures.failed c.fill.ensures.left
    (no_block (plain_section c.args.section.now) limit taken h (pending c.fill.new.self) (let s = c.in-Err.ensures.short in omega arith))

pub returns-then-held-eq0-clause-asks : goal.returns-then-held-eq0-clause-asks
returns-then-held-eq0-clause-asks g c = λ limit taken h. record {
  piece = tt;
  whole = λ told.
      let e = ap length (whole_is (pending c.args.block.now ++ (g.R.Room.state c.args.room.now).capture.bytes) (pending c.fill.new.self) (g.R.Room.state c.fill.new.room).capture.bytes (c.fill.ensures.left told) (c.in-Ok.ensures.end told (omega arith))) in
      ends_as (plain_section c.args.section.now) limit taken h (pending c.args.block.now ++ (g.R.Room.state c.args.room.now).capture.bytes) Whole (ends_whole (plain_section c.args.section.now) (pending c.args.block.now ++ (g.R.Room.state c.args.room.now).capture.bytes) (omega arith));
  stop = tt;
}

pub returns-then-not-has_head-clause-asks : goal.returns-then-not-has_head-clause-asks
returns-then-not-has_head-clause-asks g c = λ limit taken h. record {
  piece = tt;
  whole = tt;
  stop = λ told.
      let same = same_start (plain_section c.args.section.now) (pending c.args.block.now ++ (g.R.Room.state c.args.room.now).capture.bytes) (pending c.fill.new.self) (g.R.Room.state c.fill.new.room).capture.bytes (c.fill.ensures.left told) (c.in-Ok.ensures.end told) in
      let len = ap length (c.fill.ensures.left told) ∙ length-append (pending c.fill.new.self) (g.R.Room.state c.fill.new.room).capture.bytes in
      ends_as (plain_section c.args.section.now) limit taken h (pending c.args.block.now ++ (g.R.Room.state c.args.room.now).capture.bytes) Cut (ends_cut_head (plain_section c.args.section.now) (pending c.args.block.now ++ (g.R.Room.state c.args.room.now).capture.bytes) (omega arith) (same.head ∙ (sym (c.has_head.ensures ∙ ap has_head c.rest.ensures) ∙ c.if-not-has_head.true)));
}

pub returns-then-not-is_begun-clause-asks : goal.returns-then-not-is_begun-clause-asks
returns-then-not-is_begun-clause-asks g c = λ limit taken h. record {
  piece = tt;
  whole = tt;
  stop = λ told.
      let same = same_start (plain_section c.args.section.now) (pending c.args.block.now ++ (g.R.Room.state c.args.room.now).capture.bytes) (pending c.fill.new.self) (g.R.Room.state c.fill.new.room).capture.bytes (c.fill.ensures.left told) (c.in-Ok.ensures.end told) in
      let head : has_head (pending c.fill.new.self) ≡ true = (sym (c.has_head.ensures ∙ ap has_head c.rest.ensures) ∙ c.if-not-has_head.false) in
      ends_as (plain_section c.args.section.now) limit taken h (pending c.args.block.now ++ (g.R.Room.state c.args.room.now).capture.bytes) (Damaged c.u32_at-total.result) (begun (plain_section c.args.section.now) (plain_section c.enter-is_known.new.self) (pending c.args.block.now ++ (g.R.Room.state c.args.room.now).capture.bytes) (same.head ∙ head) (same.now ∙ sym (c.enter-is_known.ensures.section ∙ ap (section_at (plain_section c.args.section.now)) c.rest-2.ensures))
      ∙ ends_damaged_head (plain_section c.enter-is_known.new.self) (pending c.args.block.now ++ (g.R.Room.state c.args.room.now).capture.bytes) c.u32_at-total.result (same.total (plain_section c.enter-is_known.new.self) head ∙ sym (c.u32_at-total.ensures ∙ ap (number_at c.enter-is_known.new.self.is_big 4 4) c.rest-3.ensures))
      (ap (λ k. k && is_good c.u32_at-total.result) (same.known ∙ (sym (c.enter-is_known.ensures.known ∙ ap is_known c.rest-2.ensures))) ∙ (sym c.is_begun.ensures ∙ c.if-not-is_begun.true)));
}

pub returns-in-Err-fill-clause-reads : goal.returns-in-Err-fill-clause-reads
returns-in-Err-fill-clause-reads g c = OnlyReads-trans c.fill.ensures.reads c.fill-2.ensures.reads

pub returns-in-Err-fill-clause-asks : goal.returns-in-Err-fill-clause-asks
returns-in-Err-fill-clause-asks g c = λ limit taken h.
    let b = λ (told : IsTrue (g.R.Room.state c.args.room.now).tells). begun_by (plain_section c.args.section.now) (plain_section c.enter-is_known.new.self) c.u32_at-total.result (pending c.args.block.now ++ (g.R.Room.state c.args.room.now).capture.bytes) (pending c.fill.new.self) (g.R.Room.state c.fill.new.room).capture.bytes (c.fill.ensures.left told) (c.in-Ok.ensures.end told) (sym (c.has_head.ensures ∙ ap has_head c.rest.ensures) ∙ c.if-not-has_head.false) (c.enter-is_known.ensures.section ∙ ap (section_at (plain_section c.args.section.now)) c.rest-2.ensures)
    (ap (λ k. k && is_good c.u32_at-total.result) (sym (c.enter-is_known.ensures.known ∙ ap is_known c.rest-2.ensures)) ∙ (sym c.is_begun.ensures ∙ c.if-not-is_begun.false)) (c.u32_at-total.ensures ∙ ap (number_at c.enter-is_known.new.self.is_big 4 4) c.rest-3.ensures) in
    let now = λ (told : IsTrue (g.R.Room.state c.args.room.now).tells). c.fill.ensures.left told ∙ c.fill-2.ensures.left (told_along c.fill.ensures.reads.only told) in
    let few = c.in-Err-fill.ensures.short in
    record {
      piece = tt;
      whole = tt;
      stop = (
        (let a = c.fill.ensures.reads.later in let r : Rose (g.R.Room.state c.fill.new.room).capture.faults (g.R.Room.state c.fill-2.new.room).capture.faults = c.in-Err-fill.ensures.failed in omega arith),
        λ told. none_by (records_from first_block limit (plain_section c.args.section.now) taken) (pending c.args.block.now) (pending c.fill-2.new.self) ((OnlyReads-trans c.fill.ensures.reads c.fill-2.ensures.reads).took told) (now told) (no_whole_block (plain_section c.args.section.now) limit taken h (pending c.fill-2.new.self) (g.R.Room.state c.fill-2.new.room).capture.bytes (b told) (now told) (omega arith)),
      );
    }

pub returns-then-held-most-clause-asks : goal.returns-then-held-most-clause-asks
returns-then-held-most-clause-asks g c = λ limit taken h.
    let b = λ (told : IsTrue (g.R.Room.state c.args.room.now).tells). begun_by (plain_section c.args.section.now) (plain_section c.enter-is_known.new.self) c.u32_at-total.result (pending c.args.block.now ++ (g.R.Room.state c.args.room.now).capture.bytes) (pending c.fill.new.self) (g.R.Room.state c.fill.new.room).capture.bytes (c.fill.ensures.left told) (c.in-Ok.ensures.end told) (sym (c.has_head.ensures ∙ ap has_head c.rest.ensures) ∙ c.if-not-has_head.false) (c.enter-is_known.ensures.section ∙ ap (section_at (plain_section c.args.section.now)) c.rest-2.ensures)
    (ap (λ k. k && is_good c.u32_at-total.result) (sym (c.enter-is_known.ensures.known ∙ ap is_known c.rest-2.ensures)) ∙ (sym c.is_begun.ensures ∙ c.if-not-is_begun.false)) (c.u32_at-total.ensures ∙ ap (number_at c.enter-is_known.new.self.is_big 4 4) c.rest-3.ensures) in
    let now = λ (told : IsTrue (g.R.Room.state c.args.room.now).tells). c.fill.ensures.left told ∙ c.fill-2.ensures.left (told_along c.fill.ensures.reads.only told) in
    record {
      piece = tt;
      whole = tt;
      stop = λ told. ends_as (plain_section c.args.section.now) limit taken h (pending c.args.block.now ++ (g.R.Room.state c.args.room.now).capture.bytes) Cut (cut_of (b told) (short_whole (pending c.args.block.now ++ (g.R.Room.state c.args.room.now).capture.bytes) (pending c.fill-2.new.self) (g.R.Room.state c.fill-2.new.room).capture.bytes c.u32_at-total.result (now told) (c.in-Ok-fill.ensures.end (told_along c.fill.ensures.reads.only told) (omega arith)) (omega arith)));
    }

pub returns-in-Ok-false-clause-reads : goal.returns-in-Ok-false-clause-reads
returns-in-Ok-false-clause-reads g c = OnlyReads-trans c.fill.ensures.reads (OnlyReads-trans c.fill-2.ensures.reads c.skip.ensures.reads)

pub returns-in-Ok-false-clause-asks : goal.returns-in-Ok-false-clause-asks
returns-in-Ok-false-clause-asks g c = λ limit taken h.
    let b = λ (told : IsTrue (g.R.Room.state c.args.room.now).tells). begun_by (plain_section c.args.section.now) (plain_section c.enter-is_known.new.self) c.u32_at-total.result (pending c.args.block.now ++ (g.R.Room.state c.args.room.now).capture.bytes) (pending c.fill.new.self) (g.R.Room.state c.fill.new.room).capture.bytes (c.fill.ensures.left told) (c.in-Ok.ensures.end told) (sym (c.has_head.ensures ∙ ap has_head c.rest.ensures) ∙ c.if-not-has_head.false) (c.enter-is_known.ensures.section ∙ ap (section_at (plain_section c.args.section.now)) c.rest-2.ensures)
    (ap (λ k. k && is_good c.u32_at-total.result) (sym (c.enter-is_known.ensures.known ∙ ap is_known c.rest-2.ensures)) ∙ (sym c.is_begun.ensures ∙ c.if-not-is_begun.false)) (c.u32_at-total.ensures ∙ ap (number_at c.enter-is_known.new.self.is_big 4 4) c.rest-3.ensures) in
    let now = λ (told : IsTrue (g.R.Room.state c.args.room.now).tells). c.fill.ensures.left told ∙ c.fill-2.ensures.left (told_along c.fill.ensures.reads.only told) in
    let range = good-range c.u32_at-total.result (both c.enter-is_known.result (is_good c.u32_at-total.result) (sym c.is_begun.ensures ∙ c.if-not-is_begun.false)).1 in
    let low : 12 ≤ c.u32_at-total.result = range.0 in
    let high : c.u32_at-total.result ≤ 16777216 = range.1 in
    record {
      piece = tt;
      whole = tt;
      stop = λ told.
          let few = c.in-Ok-false.ensures.ended c.in-Ok-false.field-0-test (told_along c.fill-2.ensures.reads.only (told_along c.fill.ensures.reads.only told)) in
          let len = ap length (now told) in
          let size = c.from.ensures in
          ends_as (plain_section c.args.section.now) limit taken h (pending c.args.block.now ++ (g.R.Room.state c.args.room.now).capture.bytes) Cut (cut_of (b told) (omega arith));
    }

pub returns-in-Err-skip-clause-reads : goal.returns-in-Err-skip-clause-reads
returns-in-Err-skip-clause-reads g c = OnlyReads-trans c.fill.ensures.reads (OnlyReads-trans c.fill-2.ensures.reads c.skip.ensures.reads)

pub returns-in-Err-skip-clause-asks : goal.returns-in-Err-skip-clause-asks
returns-in-Err-skip-clause-asks g c = λ limit taken h.
    let b = λ (told : IsTrue (g.R.Room.state c.args.room.now).tells). begun_by (plain_section c.args.section.now) (plain_section c.enter-is_known.new.self) c.u32_at-total.result (pending c.args.block.now ++ (g.R.Room.state c.args.room.now).capture.bytes) (pending c.fill.new.self) (g.R.Room.state c.fill.new.room).capture.bytes (c.fill.ensures.left told) (c.in-Ok.ensures.end told) (sym (c.has_head.ensures ∙ ap has_head c.rest.ensures) ∙ c.if-not-has_head.false) (c.enter-is_known.ensures.section ∙ ap (section_at (plain_section c.args.section.now)) c.rest-2.ensures)
    (ap (λ k. k && is_good c.u32_at-total.result) (sym (c.enter-is_known.ensures.known ∙ ap is_known c.rest-2.ensures)) ∙ (sym c.is_begun.ensures ∙ c.if-not-is_begun.false)) (c.u32_at-total.ensures ∙ ap (number_at c.enter-is_known.new.self.is_big 4 4) c.rest-3.ensures) in
    let now = λ (told : IsTrue (g.R.Room.state c.args.room.now).tells). c.fill.ensures.left told ∙ c.fill-2.ensures.left (told_along c.fill.ensures.reads.only told) in
    let range = good-range c.u32_at-total.result (both c.enter-is_known.result (is_good c.u32_at-total.result) (sym c.is_begun.ensures ∙ c.if-not-is_begun.false)).1 in
    let low : 12 ≤ c.u32_at-total.result = range.0 in
    let high : c.u32_at-total.result ≤ 16777216 = range.1 in
    record {
      piece = tt;
      whole = tt;
      stop = (
        (let a = c.fill.ensures.reads.later in let d = c.fill-2.ensures.reads.later in let r : Rose (g.R.Room.state c.fill-2.new.room).capture.faults (g.R.Room.state c.skip.new.room).capture.faults = c.in-Err-skip.ensures.failed in omega arith),
        λ told.
            let broken = c.in-Err-skip.ensures.broken (told_along c.fill-2.ensures.reads.only (told_along c.fill.ensures.reads.only told)) in
            let whole = now told ∙ broken.is in
            let short = broken.short in
            let size = c.from.ensures in
            none_by (records_from first_block limit (plain_section c.args.section.now) taken) (pending c.args.block.now) broken.prefix ((OnlyReads-trans c.fill.ensures.reads (OnlyReads-trans c.fill-2.ensures.reads c.skip.ensures.reads)).took told) whole (no_whole_block (plain_section c.args.section.now) limit taken h broken.prefix (g.R.Room.state c.skip.new.room).capture.bytes (b told) whole (omega arith)),
      );
    }

pub returns-in-Ok-None-clause-reads : goal.returns-in-Ok-None-clause-reads
returns-in-Ok-None-clause-reads g c = OnlyReads-trans c.fill.ensures.reads (OnlyReads-trans c.fill-2.ensures.reads (OnlyReads-trans c.skip.ensures.reads c.take_four.ensures.reads))

pub returns-in-Ok-None-clause-asks : goal.returns-in-Ok-None-clause-asks
returns-in-Ok-None-clause-asks g c = λ limit taken h.
    let b = λ (told : IsTrue (g.R.Room.state c.args.room.now).tells). begun_by (plain_section c.args.section.now) (plain_section c.enter-is_known.new.self) c.u32_at-total.result (pending c.args.block.now ++ (g.R.Room.state c.args.room.now).capture.bytes) (pending c.fill.new.self) (g.R.Room.state c.fill.new.room).capture.bytes (c.fill.ensures.left told) (c.in-Ok.ensures.end told) (sym (c.has_head.ensures ∙ ap has_head c.rest.ensures) ∙ c.if-not-has_head.false) (c.enter-is_known.ensures.section ∙ ap (section_at (plain_section c.args.section.now)) c.rest-2.ensures)
    (ap (λ k. k && is_good c.u32_at-total.result) (sym (c.enter-is_known.ensures.known ∙ ap is_known c.rest-2.ensures)) ∙ (sym c.is_begun.ensures ∙ c.if-not-is_begun.false)) (c.u32_at-total.ensures ∙ ap (number_at c.enter-is_known.new.self.is_big 4 4) c.rest-3.ensures) in
    let now = λ (told : IsTrue (g.R.Room.state c.args.room.now).tells). c.fill.ensures.left told ∙ c.fill-2.ensures.left (told_along c.fill.ensures.reads.only told) in
    let range = good-range c.u32_at-total.result (both c.enter-is_known.result (is_good c.u32_at-total.result) (sym c.is_begun.ensures ∙ c.if-not-is_begun.false)).1 in
    let low : 12 ≤ c.u32_at-total.result = range.0 in
    let high : c.u32_at-total.result ≤ 16777216 = range.1 in
    let passes = λ (told : IsTrue (g.R.Room.state c.args.room.now).tells). subst (λ n. Passes (n - 4) ((pending c.fill-2.new.self) ++ (g.R.Room.state c.fill-2.new.room).capture.bytes) (pending c.skip.new.self ++ (g.R.Room.state c.skip.new.room).capture.bytes)) c.from.ensures
    (c.in-Ok-true.ensures.all c.in-Ok-true.field-0-test (told_along c.fill-2.ensures.reads.only (told_along c.fill.ensures.reads.only told))) in
    let told_now = λ (told : IsTrue (g.R.Room.state c.args.room.now).tells). told_along c.skip.ensures.reads.only (told_along c.fill-2.ensures.reads.only (told_along c.fill.ensures.reads.only told)) in
    let none = rw c.in-Ok-None.field-0-is at c.in-Ok-None.ensures.none in
    record {
      piece = tt;
      whole = tt;
      stop = λ told.
          let few : length (pending c.skip.new.self ++ (g.R.Room.state c.skip.new.room).capture.bytes) < 4 = none (told_now told) in
          let p = passes told in
          let size = p.long in
          let len = ap length (now told ∙ p.is) ∙ length-append p.prefix (pending c.skip.new.self ++ (g.R.Room.state c.skip.new.room).capture.bytes) in
          ends_as (plain_section c.args.section.now) limit taken h (pending c.args.block.now ++ (g.R.Room.state c.args.room.now).capture.bytes) Cut (cut_of (b told) (omega arith));
    }

pub returns-in-Err-take_four-clause-reads : goal.returns-in-Err-take_four-clause-reads
returns-in-Err-take_four-clause-reads g c = OnlyReads-trans c.fill.ensures.reads (OnlyReads-trans c.fill-2.ensures.reads (OnlyReads-trans c.skip.ensures.reads c.take_four.ensures.reads))

pub returns-in-Err-take_four-clause-asks : goal.returns-in-Err-take_four-clause-asks
returns-in-Err-take_four-clause-asks g c = λ limit taken h.
    let b = λ (told : IsTrue (g.R.Room.state c.args.room.now).tells). begun_by (plain_section c.args.section.now) (plain_section c.enter-is_known.new.self) c.u32_at-total.result (pending c.args.block.now ++ (g.R.Room.state c.args.room.now).capture.bytes) (pending c.fill.new.self) (g.R.Room.state c.fill.new.room).capture.bytes (c.fill.ensures.left told) (c.in-Ok.ensures.end told) (sym (c.has_head.ensures ∙ ap has_head c.rest.ensures) ∙ c.if-not-has_head.false) (c.enter-is_known.ensures.section ∙ ap (section_at (plain_section c.args.section.now)) c.rest-2.ensures)
    (ap (λ k. k && is_good c.u32_at-total.result) (sym (c.enter-is_known.ensures.known ∙ ap is_known c.rest-2.ensures)) ∙ (sym c.is_begun.ensures ∙ c.if-not-is_begun.false)) (c.u32_at-total.ensures ∙ ap (number_at c.enter-is_known.new.self.is_big 4 4) c.rest-3.ensures) in
    let now = λ (told : IsTrue (g.R.Room.state c.args.room.now).tells). c.fill.ensures.left told ∙ c.fill-2.ensures.left (told_along c.fill.ensures.reads.only told) in
    let range = good-range c.u32_at-total.result (both c.enter-is_known.result (is_good c.u32_at-total.result) (sym c.is_begun.ensures ∙ c.if-not-is_begun.false)).1 in
    let low : 12 ≤ c.u32_at-total.result = range.0 in
    let high : c.u32_at-total.result ≤ 16777216 = range.1 in
    let passes = λ (told : IsTrue (g.R.Room.state c.args.room.now).tells). subst (λ n. Passes (n - 4) ((pending c.fill-2.new.self) ++ (g.R.Room.state c.fill-2.new.room).capture.bytes) (pending c.skip.new.self ++ (g.R.Room.state c.skip.new.room).capture.bytes)) c.from.ensures
    (c.in-Ok-true.ensures.all c.in-Ok-true.field-0-test (told_along c.fill-2.ensures.reads.only (told_along c.fill.ensures.reads.only told))) in
    let told_now = λ (told : IsTrue (g.R.Room.state c.args.room.now).tells). told_along c.skip.ensures.reads.only (told_along c.fill-2.ensures.reads.only (told_along c.fill.ensures.reads.only told)) in
    record {
      piece = tt;
      whole = tt;
      stop = (
        (let a = (OnlyReads-trans c.fill.ensures.reads (OnlyReads-trans c.fill-2.ensures.reads c.skip.ensures.reads)).later in let r : Rose (g.R.Room.state c.skip.new.room).capture.faults (g.R.Room.state c.take_four.new.room).capture.faults = c.in-Err-take_four.ensures.failed in omega arith),
        λ told.
            let p = passes told in
            let q = c.in-Err-take_four.ensures.broken (told_now told) in
            let whole = now told ∙ (p.is ∙ (ap (λ xs. p.prefix ++ xs) q.is ∙ sym (append_assoc p.prefix q.prefix (g.R.Room.state c.take_four.new.room).capture.bytes))) in
            let short = q.short in
            let size = p.long in
            let len = length-append p.prefix q.prefix in
            none_by (records_from first_block limit (plain_section c.args.section.now) taken) (pending c.args.block.now) (p.prefix ++ q.prefix) ((OnlyReads-trans c.fill.ensures.reads (OnlyReads-trans c.fill-2.ensures.reads (OnlyReads-trans c.skip.ensures.reads c.take_four.ensures.reads))).took told) whole (no_whole_block (plain_section c.args.section.now) limit taken h (p.prefix ++ q.prefix) (g.R.Room.state c.take_four.new.room).capture.bytes (b told) whole (omega arith)),
      );
    }

pub returns-in-Some-clause-reads : goal.returns-in-Some-clause-reads
returns-in-Some-clause-reads g c = OnlyReads-trans c.fill.ensures.reads (OnlyReads-trans c.fill-2.ensures.reads (OnlyReads-trans c.skip.ensures.reads c.take_four.ensures.reads))

pub returns-in-Some-clause-sound : goal.returns-in-Some-clause-sound
returns-in-Some-clause-sound g c =
    let range = good-range c.u32_at-total.result (both c.enter-is_known.result (is_good c.u32_at-total.result) (sym c.is_begun.ensures ∙ c.if-not-is_begun.false)).1 in
    let low : 12 ≤ c.u32_at-total.result = range.0 in
    let high : c.u32_at-total.result ≤ 16777216 = range.1 in
    let same : vec_len c.take_four.new.self.bytes ≡ vec_len c.fill-2.new.self.bytes = ap (λ v. vec_len v) (c.take_four.ensures.bytes ∙ c.skip.ensures.bytes) in
    let len = length-drop c.fill-2.new.self.at (take c.fill-2.new.self.end c.fill-2.new.self.bytes.items) in
    let all = length-take c.fill-2.new.self.end c.fill-2.new.self.bytes.items in
    let ok = c.fill-2.new.self.bytes.ok in
    sound_block c.take_four.new.self c.u32_at-total.result c.from-in-Some.result c.fill-2.new.self.at (vec_len c.enter-is_known.new.self.interfaces) c.in-Some.content c.place_of.result c.from-in-Some.ensures low high c.in-Some.ensures.within c.place_of.ensures (omega arith)

pub returns-in-Some-clause-asks : goal.returns-in-Some-clause-asks
returns-in-Some-clause-asks g c = λ limit taken h.
    let b = λ (told : IsTrue (g.R.Room.state c.args.room.now).tells). begun_by (plain_section c.args.section.now) (plain_section c.enter-is_known.new.self) c.u32_at-total.result (pending c.args.block.now ++ (g.R.Room.state c.args.room.now).capture.bytes) (pending c.fill.new.self) (g.R.Room.state c.fill.new.room).capture.bytes (c.fill.ensures.left told) (c.in-Ok.ensures.end told) (sym (c.has_head.ensures ∙ ap has_head c.rest.ensures) ∙ c.if-not-has_head.false) (c.enter-is_known.ensures.section ∙ ap (section_at (plain_section c.args.section.now)) c.rest-2.ensures)
    (ap (λ k. k && is_good c.u32_at-total.result) (sym (c.enter-is_known.ensures.known ∙ ap is_known c.rest-2.ensures)) ∙ (sym c.is_begun.ensures ∙ c.if-not-is_begun.false)) (c.u32_at-total.ensures ∙ ap (number_at c.enter-is_known.new.self.is_big 4 4) c.rest-3.ensures) in
    let now = λ (told : IsTrue (g.R.Room.state c.args.room.now).tells). c.fill.ensures.left told ∙ c.fill-2.ensures.left (told_along c.fill.ensures.reads.only told) in
    let range = good-range c.u32_at-total.result (both c.enter-is_known.result (is_good c.u32_at-total.result) (sym c.is_begun.ensures ∙ c.if-not-is_begun.false)).1 in
    let low : 12 ≤ c.u32_at-total.result = range.0 in
    let high : c.u32_at-total.result ≤ 16777216 = range.1 in
    let passes = λ (told : IsTrue (g.R.Room.state c.args.room.now).tells). subst (λ n. Passes (n - 4) ((pending c.fill-2.new.self) ++ (g.R.Room.state c.fill-2.new.room).capture.bytes) (pending c.skip.new.self ++ (g.R.Room.state c.skip.new.room).capture.bytes)) c.from.ensures
    (c.in-Ok-true.ensures.all c.in-Ok-true.field-0-test (told_along c.fill-2.ensures.reads.only (told_along c.fill.ensures.reads.only told))) in
    let told_now = λ (told : IsTrue (g.R.Room.state c.args.room.now).tells). told_along c.skip.ensures.reads.only (told_along c.fill-2.ensures.reads.only (told_along c.fill.ensures.reads.only told)) in
    let some = rw c.in-Ok-Some.field-0-is at c.in-Ok-Some.ensures.some in
    let four : length c.in-Ok-Some.last ≡ 4 = rw c.in-Ok-Some.field-0-is at c.in-Ok-Some.ensures.long in
    let text = λ (told : IsTrue (g.R.Room.state c.args.room.now).tells). text_of c.u32_at-total.result c.in-Ok-Some.last (pending c.args.block.now ++ (g.R.Room.state c.args.room.now).capture.bytes) ((pending c.fill-2.new.self) ++ (g.R.Room.state c.fill-2.new.room).capture.bytes) (pending c.skip.new.self ++ (g.R.Room.state c.skip.new.room).capture.bytes) (pending c.take_four.new.self ++ (g.R.Room.state c.take_four.new.room).capture.bytes) low (now told) (passes told) (some (told_now told)) four in
    record {
      piece = λ told.
          gives_as (pending c.take_four.new.self) limit taken (plain_section c.enter-is_known.new.self) (plain_section c.go_on.new.self) c.in-Some.content c.u32_at-total.result c.from-in-Some.result c.fill-2.new.self.at c.place_of.result c.go_on.ensures c.from-in-Some.ensures c.place_of.ensures
          (gives_block (plain_section c.args.section.now) limit taken h (pending c.args.block.now) (pending c.take_four.new.self) c.in-Some.content c.fill-2.new.self.at c.fill-2.new.self.end (take c.fill-2.new.self.end c.fill-2.new.self.bytes.items) (g.R.Room.state c.fill-2.new.room).capture.bytes c.take_four.new.self.bytes.items
          ((OnlyReads-trans c.fill.ensures.reads (OnlyReads-trans c.fill-2.ensures.reads (OnlyReads-trans c.skip.ensures.reads c.take_four.ensures.reads))).took told) (b told) (text told) (now told) (omega arith) (sym (c.content-said.ensures.content ∙ ap (content (plain_section c.enter-is_known.new.self) c.u32_at-total.result) c.rest-4.ensures) ∙ c.in-Some.is) (within-none c.u32_at-total.result (vec_len c.enter-is_known.new.self.interfaces) c.in-Some.content c.in-Some.ensures.within)
          (sym c.u32_at.ensures ∙ c.if-u32_at-total.true) (ap (λ v. take c.fill-2.new.self.end v.items) (sym (c.take_four.ensures.bytes ∙ c.skip.ensures.bytes))));
      whole = tt;
      stop = tt;
    }

pub returns-in_default-clause-reads : goal.returns-in_default-clause-reads
returns-in_default-clause-reads g c = OnlyReads-trans c.fill.ensures.reads (OnlyReads-trans c.fill-2.ensures.reads (OnlyReads-trans c.skip.ensures.reads c.take_four.ensures.reads))

pub returns-in_default-clause-asks : goal.returns-in_default-clause-asks
returns-in_default-clause-asks g c = λ limit taken h.
    let b = λ (told : IsTrue (g.R.Room.state c.args.room.now).tells). begun_by (plain_section c.args.section.now) (plain_section c.enter-is_known.new.self) c.u32_at-total.result (pending c.args.block.now ++ (g.R.Room.state c.args.room.now).capture.bytes) (pending c.fill.new.self) (g.R.Room.state c.fill.new.room).capture.bytes (c.fill.ensures.left told) (c.in-Ok.ensures.end told) (sym (c.has_head.ensures ∙ ap has_head c.rest.ensures) ∙ c.if-not-has_head.false) (c.enter-is_known.ensures.section ∙ ap (section_at (plain_section c.args.section.now)) c.rest-2.ensures)
    (ap (λ k. k && is_good c.u32_at-total.result) (sym (c.enter-is_known.ensures.known ∙ ap is_known c.rest-2.ensures)) ∙ (sym c.is_begun.ensures ∙ c.if-not-is_begun.false)) (c.u32_at-total.ensures ∙ ap (number_at c.enter-is_known.new.self.is_big 4 4) c.rest-3.ensures) in
    let now = λ (told : IsTrue (g.R.Room.state c.args.room.now).tells). c.fill.ensures.left told ∙ c.fill-2.ensures.left (told_along c.fill.ensures.reads.only told) in
    let range = good-range c.u32_at-total.result (both c.enter-is_known.result (is_good c.u32_at-total.result) (sym c.is_begun.ensures ∙ c.if-not-is_begun.false)).1 in
    let low : 12 ≤ c.u32_at-total.result = range.0 in
    let high : c.u32_at-total.result ≤ 16777216 = range.1 in
    let passes = λ (told : IsTrue (g.R.Room.state c.args.room.now).tells). subst (λ n. Passes (n - 4) ((pending c.fill-2.new.self) ++ (g.R.Room.state c.fill-2.new.room).capture.bytes) (pending c.skip.new.self ++ (g.R.Room.state c.skip.new.room).capture.bytes)) c.from.ensures
    (c.in-Ok-true.ensures.all c.in-Ok-true.field-0-test (told_along c.fill-2.ensures.reads.only (told_along c.fill.ensures.reads.only told))) in
    let told_now = λ (told : IsTrue (g.R.Room.state c.args.room.now).tells). told_along c.skip.ensures.reads.only (told_along c.fill-2.ensures.reads.only (told_along c.fill.ensures.reads.only told)) in
    let some = rw c.in-Ok-Some.field-0-is at c.in-Ok-Some.ensures.some in
    let four : length c.in-Ok-Some.last ≡ 4 = rw c.in-Ok-Some.field-0-is at c.in-Ok-Some.ensures.long in
    let text = λ (told : IsTrue (g.R.Room.state c.args.room.now).tells). text_of c.u32_at-total.result c.in-Ok-Some.last (pending c.args.block.now ++ (g.R.Room.state c.args.room.now).capture.bytes) ((pending c.fill-2.new.self) ++ (g.R.Room.state c.fill-2.new.room).capture.bytes) (pending c.skip.new.self ++ (g.R.Room.state c.skip.new.room).capture.bytes) (pending c.take_four.new.self ++ (g.R.Room.state c.take_four.new.room).capture.bytes) low (now told) (passes told) (some (told_now told)) four in
    record {
      piece = tt;
      whole = tt;
      stop = λ told. damaged_last (plain_section c.args.section.now) limit taken h (b told) (text told) (λ e. c.if-u32_at-total.false (c.u32_at.ensures ∙ e));
    }

pub returns-in_default-2-clause-reads : goal.returns-in_default-2-clause-reads
returns-in_default-2-clause-reads g c = OnlyReads-trans c.fill.ensures.reads (OnlyReads-trans c.fill-2.ensures.reads (OnlyReads-trans c.skip.ensures.reads c.take_four.ensures.reads))

pub returns-in_default-2-clause-asks : goal.returns-in_default-2-clause-asks
returns-in_default-2-clause-asks g c = λ limit taken h.
    let b = λ (told : IsTrue (g.R.Room.state c.args.room.now).tells). begun_by (plain_section c.args.section.now) (plain_section c.enter-is_known.new.self) c.u32_at-total.result (pending c.args.block.now ++ (g.R.Room.state c.args.room.now).capture.bytes) (pending c.fill.new.self) (g.R.Room.state c.fill.new.room).capture.bytes (c.fill.ensures.left told) (c.in-Ok.ensures.end told) (sym (c.has_head.ensures ∙ ap has_head c.rest.ensures) ∙ c.if-not-has_head.false) (c.enter-is_known.ensures.section ∙ ap (section_at (plain_section c.args.section.now)) c.rest-2.ensures)
    (ap (λ k. k && is_good c.u32_at-total.result) (sym (c.enter-is_known.ensures.known ∙ ap is_known c.rest-2.ensures)) ∙ (sym c.is_begun.ensures ∙ c.if-not-is_begun.false)) (c.u32_at-total.ensures ∙ ap (number_at c.enter-is_known.new.self.is_big 4 4) c.rest-3.ensures) in
    let now = λ (told : IsTrue (g.R.Room.state c.args.room.now).tells). c.fill.ensures.left told ∙ c.fill-2.ensures.left (told_along c.fill.ensures.reads.only told) in
    let range = good-range c.u32_at-total.result (both c.enter-is_known.result (is_good c.u32_at-total.result) (sym c.is_begun.ensures ∙ c.if-not-is_begun.false)).1 in
    let low : 12 ≤ c.u32_at-total.result = range.0 in
    let high : c.u32_at-total.result ≤ 16777216 = range.1 in
    let passes = λ (told : IsTrue (g.R.Room.state c.args.room.now).tells). subst (λ n. Passes (n - 4) ((pending c.fill-2.new.self) ++ (g.R.Room.state c.fill-2.new.room).capture.bytes) (pending c.skip.new.self ++ (g.R.Room.state c.skip.new.room).capture.bytes)) c.from.ensures
    (c.in-Ok-true.ensures.all c.in-Ok-true.field-0-test (told_along c.fill-2.ensures.reads.only (told_along c.fill.ensures.reads.only told))) in
    let told_now = λ (told : IsTrue (g.R.Room.state c.args.room.now).tells). told_along c.skip.ensures.reads.only (told_along c.fill-2.ensures.reads.only (told_along c.fill.ensures.reads.only told)) in
    let some = rw c.in-Ok-Some.field-0-is at c.in-Ok-Some.ensures.some in
    let four : length c.in-Ok-Some.last ≡ 4 = rw c.in-Ok-Some.field-0-is at c.in-Ok-Some.ensures.long in
    let text = λ (told : IsTrue (g.R.Room.state c.args.room.now).tells). text_of c.u32_at-total.result c.in-Ok-Some.last (pending c.args.block.now ++ (g.R.Room.state c.args.room.now).capture.bytes) ((pending c.fill-2.new.self) ++ (g.R.Room.state c.fill-2.new.room).capture.bytes) (pending c.skip.new.self ++ (g.R.Room.state c.skip.new.room).capture.bytes) (pending c.take_four.new.self ++ (g.R.Room.state c.take_four.new.room).capture.bytes) low (now told) (passes told) (some (told_now told)) four in
    record {
      piece = tt;
      whole = tt;
      stop = λ told. damaged_rule (plain_section c.args.section.now) limit taken h (pending c.fill-2.new.self) (g.R.Room.state c.fill-2.new.room).capture.bytes (b told) (text told) (now told) (omega arith) (omega arith) (sym (c.content-said.ensures.content ∙ ap (content (plain_section c.enter-is_known.new.self) c.u32_at-total.result) c.rest-4.ensures) ∙ c.in_default.is);
    }
