use Rattle.std.proofs.Common.{◌≡◌, ◌+◌, ◌++◌, IsTrue, length, take, arith, refl, sym, ◌∙◌, ap}
use Rattle.room_io.proofs.ReadUpTo.{told_along}
use Rattle.room_io.specs.Room.{Rose}
use Rattle.capture_feed.specs.Records.{records_from}
use Rattle.capture_feed.specs.Pcap.{captured, first_record}
use Rattle.capture_feed.specs.Block.{pending}
use Rattle.capture_feed.proofs.PieceLoops.{OnlyReads-trans}
use Rattle.capture_feed.proofs.Handing.{none_by}
use Rattle.capture_feed.proofs.Asking.{asks_fault, short_whole}
use Rattle.capture_feed.proofs.PcapRecords.{at_end, at_cut_head, at_damaged, at_cut_body, no_record, no_record_body, at_record}
use Rattle.capture_feed.proofs.pcap.next_record.Goals as goal

pub returns-in-Err-clause-asks : goal.returns-in-Err-clause-asks
returns-in-Err-clause-asks g c = λ limit taken h.
    asks_fault (records_from first_record limit c.args.is_big taken) _ (pending c.args.block.now) (pending c.fill.new.self) _ c.fill.ensures.reads c.in-Err.ensures.failed c.fill.ensures.left
    (no_record c.args.is_big limit taken h (pending c.fill.new.self) (let s = c.in-Err.ensures.short in omega arith))

pub returns-then-held-eq0-clause-asks : goal.returns-then-held-eq0-clause-asks
returns-then-held-eq0-clause-asks g c = λ limit taken h. record {
  piece = tt;
  whole = λ told. at_end c.args.is_big limit taken h (pending c.args.block.now ++ (g.R.Room.state c.args.room.now).capture.bytes) (pending c.fill.new.self) (g.R.Room.state c.fill.new.room).capture.bytes (c.fill.ensures.left told) (c.in-Ok.ensures.end told (omega arith)) (omega arith);
  stop = tt;
}

pub returns-then-held-lt-RECORD_HEAD-clause-asks : goal.returns-then-held-lt-RECORD_HEAD-clause-asks
returns-then-held-lt-RECORD_HEAD-clause-asks g c = λ limit taken h. record {
  piece = tt;
  whole = tt;
  stop = λ told. at_cut_head c.args.is_big limit taken h (pending c.args.block.now ++ (g.R.Room.state c.args.room.now).capture.bytes) (pending c.fill.new.self) (g.R.Room.state c.fill.new.room).capture.bytes (c.fill.ensures.left told) (c.in-Ok.ensures.end told (omega arith)) (omega arith) (omega arith);
}

pub returns-then-captured-gt-MOST_CAPTURED-clause-asks : goal.returns-then-captured-gt-MOST_CAPTURED-clause-asks
returns-then-captured-gt-MOST_CAPTURED-clause-asks g c = λ limit taken h. record {
  piece = tt;
  whole = tt;
  stop = λ told.
      let n_is : c.captured_at-captured.result ≡ captured c.args.is_big (pending c.fill.new.self) = c.captured_at-captured.ensures ∙ ap (captured c.args.is_big) c.rest.ensures in
      at_damaged c.args.is_big limit taken h (pending c.args.block.now ++ (g.R.Room.state c.args.room.now).capture.bytes) (pending c.fill.new.self) (g.R.Room.state c.fill.new.room).capture.bytes c.captured_at-captured.result (c.fill.ensures.left told) (omega arith) n_is (omega arith);
}

pub returns-in-Err-fill-clause-reads : goal.returns-in-Err-fill-clause-reads
returns-in-Err-fill-clause-reads g c = OnlyReads-trans c.fill.ensures.reads c.fill-2.ensures.reads

pub returns-in-Err-fill-clause-asks : goal.returns-in-Err-fill-clause-asks
returns-in-Err-fill-clause-asks g c = λ limit taken h.
    let n_is : c.captured_at-captured.result ≡ captured c.args.is_big (pending c.fill.new.self) = c.captured_at-captured.ensures ∙ ap (captured c.args.is_big) c.rest.ensures in
    let now = λ (told : IsTrue (g.R.Room.state c.args.room.now).tells). c.fill.ensures.left told ∙ c.in-Err-fill.ensures.left (told_along c.fill.ensures.reads.only told) in
    let few = c.in-Err-fill.ensures.short in
    record {
      piece = tt;
      whole = tt;
      stop = (
        (let a = c.fill.ensures.reads.later in let r : Rose (g.R.Room.state c.fill.new.room).capture.faults (g.R.Room.state c.fill-2.new.room).capture.faults = c.in-Err-fill.ensures.failed in omega arith),
        λ told. none_by (records_from first_record limit c.args.is_big taken) (pending c.args.block.now) (pending c.fill-2.new.self) ((OnlyReads-trans c.fill.ensures.reads c.fill-2.ensures.reads).took told) (now told)
            (no_record_body c.args.is_big limit taken h (pending c.args.block.now ++ (g.R.Room.state c.args.room.now).capture.bytes) (pending c.fill.new.self) (g.R.Room.state c.fill.new.room).capture.bytes (pending c.fill-2.new.self) (g.R.Room.state c.fill-2.new.room).capture.bytes c.captured_at-captured.result (c.fill.ensures.left told) (omega arith) n_is (now told) (omega arith)),
      );
    }

pub returns-then-held-kept-clause-asks : goal.returns-then-held-kept-clause-asks
returns-then-held-kept-clause-asks g c = λ limit taken h.
    let n_is : c.captured_at-captured.result ≡ captured c.args.is_big (pending c.fill.new.self) = c.captured_at-captured.ensures ∙ ap (captured c.args.is_big) c.rest.ensures in
    record {
      piece = tt;
      whole = tt;
      stop = λ told.
          let later = told_along c.fill.ensures.reads.only told in
          let now = c.fill.ensures.left told ∙ c.in-Ok-fill.ensures.left later in
          at_cut_body c.args.is_big limit taken h (pending c.args.block.now ++ (g.R.Room.state c.args.room.now).capture.bytes) (pending c.fill.new.self) (g.R.Room.state c.fill.new.room).capture.bytes c.captured_at-captured.result (c.fill.ensures.left told) (omega arith) n_is (omega arith)
          (short_whole (pending c.args.block.now ++ (g.R.Room.state c.args.room.now).capture.bytes) (pending c.fill-2.new.self) (g.R.Room.state c.fill-2.new.room).capture.bytes (16 + c.captured_at-captured.result) now (c.in-Ok-fill.ensures.end later (omega arith)) (omega arith));
    }

pub returns-in-Ok-true-clause-reads : goal.returns-in-Ok-true-clause-reads
returns-in-Ok-true-clause-reads g c = OnlyReads-trans c.fill.ensures.reads (OnlyReads-trans c.fill-2.ensures.reads c.skip.ensures.reads)

pub returns-in-Ok-true-clause-asks : goal.returns-in-Ok-true-clause-asks
returns-in-Ok-true-clause-asks g c = λ limit taken h.
    let n_is : c.captured_at-captured.result ≡ captured c.args.is_big (pending c.fill.new.self) = c.captured_at-captured.ensures ∙ ap (captured c.args.is_big) c.rest.ensures in
    record {
      piece = λ told.
          let later = told_along c.fill.ensures.reads.only told in
          let now = c.fill.ensures.left told ∙ c.in-Ok-fill.ensures.left later in
          at_record c.args.is_big limit taken h 2048 (pending c.args.block.now) (pending c.fill.new.self) (g.R.Room.state c.fill.new.room).capture.bytes c.skip.new.self.bytes.items (take c.fill-2.new.self.end c.fill-2.new.self.bytes.items) (g.R.Room.state c.fill-2.new.room).capture.bytes (pending c.skip.new.self) c.captured_at-captured.result c.fill-2.new.self.at c.fill-2.new.self.end refl
          ((OnlyReads-trans c.fill.ensures.reads (OnlyReads-trans c.fill-2.ensures.reads c.skip.ensures.reads)).took told)
          (c.fill.ensures.left told) (omega arith) n_is (omega arith) now (omega arith)
          (c.in-Ok-true.ensures.all c.in-Ok-true.field-0-test (told_along c.fill-2.ensures.reads.only later)) (ap (λ b. take c.fill-2.new.self.end b.items) (sym c.skip.ensures.bytes));
      whole = tt;
      stop = tt;
    }

pub returns-in-Ok-false-clause-reads : goal.returns-in-Ok-false-clause-reads
returns-in-Ok-false-clause-reads g c = OnlyReads-trans c.fill.ensures.reads (OnlyReads-trans c.fill-2.ensures.reads c.skip.ensures.reads)

pub returns-in-Ok-false-clause-asks : goal.returns-in-Ok-false-clause-asks
returns-in-Ok-false-clause-asks g c = λ limit taken h.
    let n_is : c.captured_at-captured.result ≡ captured c.args.is_big (pending c.fill.new.self) = c.captured_at-captured.ensures ∙ ap (captured c.args.is_big) c.rest.ensures in
    record {
      piece = tt;
      whole = tt;
      stop = λ told.
          let later = told_along c.fill.ensures.reads.only told in
          let now = c.fill.ensures.left told ∙ c.in-Ok-fill.ensures.left later in
          let len = ap length now in
          let few = c.in-Ok-false.ensures.ended c.in-Ok-false.field-0-test (told_along c.fill-2.ensures.reads.only later) in
          at_cut_body c.args.is_big limit taken h (pending c.args.block.now ++ (g.R.Room.state c.args.room.now).capture.bytes) (pending c.fill.new.self) (g.R.Room.state c.fill.new.room).capture.bytes c.captured_at-captured.result (c.fill.ensures.left told) (omega arith) n_is (omega arith) (omega arith);
    }

pub returns-in-Err-skip-clause-reads : goal.returns-in-Err-skip-clause-reads
returns-in-Err-skip-clause-reads g c = OnlyReads-trans c.fill.ensures.reads (OnlyReads-trans c.fill-2.ensures.reads c.skip.ensures.reads)

pub returns-in-Err-skip-clause-asks : goal.returns-in-Err-skip-clause-asks
returns-in-Err-skip-clause-asks g c = λ limit taken h.
    let n_is : c.captured_at-captured.result ≡ captured c.args.is_big (pending c.fill.new.self) = c.captured_at-captured.ensures ∙ ap (captured c.args.is_big) c.rest.ensures in
    record {
      piece = tt;
      whole = tt;
      stop = (
        (let a = c.fill.ensures.reads.later in let b = c.fill-2.ensures.reads.later in let r : Rose (g.R.Room.state c.fill-2.new.room).capture.faults (g.R.Room.state c.skip.new.room).capture.faults = c.in-Err-skip.ensures.failed in omega arith),
        λ told.
            let later = told_along c.fill.ensures.reads.only told in
            let broken = c.in-Err-skip.ensures.broken (told_along c.fill-2.ensures.reads.only later) in
            let now = c.fill.ensures.left told ∙ (c.in-Ok-fill.ensures.left later ∙ broken.is) in
            none_by (records_from first_record limit c.args.is_big taken) (pending c.args.block.now) broken.prefix ((OnlyReads-trans c.fill.ensures.reads (OnlyReads-trans c.fill-2.ensures.reads c.skip.ensures.reads)).took told) now
            (no_record_body c.args.is_big limit taken h (pending c.args.block.now ++ (g.R.Room.state c.args.room.now).capture.bytes) (pending c.fill.new.self) (g.R.Room.state c.fill.new.room).capture.bytes broken.prefix (g.R.Room.state c.skip.new.room).capture.bytes c.captured_at-captured.result (c.fill.ensures.left told) (omega arith) n_is now broken.short),
      );
    }
