-- The ends of `record`.
use Rattle.std.proofs.Common.{◌≡◌, ◌≢◌, ◌∙◌, inl, inr, ℕ, zero, suc, ◌<◌, Bool, true, false, IsTrue, List, [], ◌++◌, length, map, refl, sym, ap, subst, arith, length-append}
use Rattle.std.specs.Prelude.{Option, None, Some, Result, Ok, Err, is_some, nat_le, if◌then◌else◌}
use Rattle.std.proofs.lemmas.Bool.{cases_Bool}
use Rattle.std.proofs.lemmas.Bool.Decides.{nat_tests}
use Rattle.std.proofs.lemmas.List.{length-map}
use Rattle.room_io.specs.Room.{RoomState, SlotState, at, Rose, OnlyAt, IsFile, IsUnused}
use Rattle.room_io.specs.declared.room.Slot.{Slot}
use Rattle.room_io.specs.declared.room.Slot.TheVariants.{Settings, Capture, Goose, Log, Config, Data, Note, Answer}
use Rattle.capture_feed.specs.Records.{Records, Stop, Whole, Damaged, Cut, TooLong}
use Rattle.capture_feed.specs.Captures.{records}
use Rattle.capture_feed.specs.Left.{found, Begins, HasNoHeader}
use Rattle.capture_feed.specs.declared.feed.Feed.{Feed}
use Rattle.relay_settings.specs.Settings.{PlainLine, PlainSettings}
use Rattle.relay_settings.specs.declared.types.Common.{Common}
use Rattle.settings_read.specs.Walk.{Refusal}
use Rattle.settings_read.specs.Accepted.{accepted}
use Rattle.sv_frame.specs.Asdu.{PlainAsdu}
use Rattle.comtrade_write.specs.Recordings.{trips_of, covered_of, config_of, data_of}
use Rattle.relay_tool.specs.Endings.{Ending, status_of, done, not_capture, cut, damaged, too_long, fault, no_trip, no_line}
use Rattle.relay_tool.specs.Ends.{lacking_end}
use Rattle.relay_tool.specs.Words.{RecordNames, recording, word}
use Rattle.relay_tool.specs.Output.{Item, config_item, data_item, pair_items, heard}
use Rattle.relay_tool.specs.Run.{Run, ended, refused_run, run_of, record_by, named_run, line_run, pair_run, line_named, lacking_at, content_of, ending_at, most_capture}
use Rattle.relay_tool.specs.Answers.{uses, OpensPair}
use Rattle.relay_tool.specs.Files.{IsWritten, IsWrittenFile, AreReady, Reaches, IsUnstarted, IsStarted, is_slot, written, front}
use Rattle.relay_tool.specs.Making.{OnlyWrites, Appends, FailsIn}
use Rattle.relay_tool.specs.Leaving.{Gives, Leaves}
use Rattle.relay_tool.specs.Opening.{OpensCapture, CaptureEnd, capture_ending, OpensOutput}
use Rattle.relay_tool.specs.Running.{ending_of_stop}
use Rattle.relay_tool.specs.Listening.{Listens}
use Rattle.relay_tool.specs.declared.files.CaptureStop.{CaptureStop}
use Rattle.relay_tool.specs.declared.files.CaptureStop.TheVariants as captures
use Rattle.relay_tool.specs.declared.put.Failed.{Failed}
use Rattle.relay_tool.specs.declared.run.Stopped.{Stopped}
use Rattle.relay_tool.specs.declared.run.Stopped.TheVariants as stopped
use Rattle.relay_tool.proofs.Slots.{kept-at, same-slot, clash}
use Rattle.relay_tool.proofs.Placing.{in-after, in-pair}
use Rattle.relay_tool.proofs.Staging.{Staged, Laws, staged-at, staged-uses, used-word, written-file, nothing, unbegun, alone-unstarted}
use Rattle.relay_tool.proofs.Treating.{works-reads, apart}
use Rattle.relay_tool.proofs.Reading.{read-headerless, read-otherwise}
use Rattle.relay_tool.proofs.Replaying.{Read, leaves, answer-none}
use Rattle.relay_tool.proofs.Pairing.{data_of-length}

-- ---- how it may end

-- of either run what holds of both
either-run : (P : Ending → Type 0) (b : Bool) (x y : Run) → P x.ending → P y.ending → P (if b then x else y).ending
either-run P true x y p q = p
either-run P false x y p q = q

pair-ends : (P : Ending → Type 0) → ((x : Stop) (n : ℕ) → P (ending_at x n)) → ((x : Stop) (n t : ℕ) → P (lacking_at x n t)) → (s : PlainSettings) (line : PlainLine) (k : ℕ) (f : Records) → P (pair_run s line k f).ending
pair-ends P stops lacks s line k f = either-run P (nat_le k (trips_of s.common line (heard [] f.bodies))) _ _ (stops f.stop (length f.bodies)) (lacks f.stop (length f.bodies) (trips_of s.common line (heard [] f.bodies)))

line-ends : (P : Ending → Type 0) → ((x : Stop) (n : ℕ) → P (ending_at x n)) → ((x : Stop) (n t : ℕ) → P (lacking_at x n t)) → P not_capture → (s : PlainSettings) (k : ℕ) (line : PlainLine) (o : Option Records) → P (line_run s k line o).ending
line-ends P stops lacks none s k line None = none
line-ends P stops lacks none s k line (Some f) = pair-ends P stops lacks s line k f

abbrev NotRefused : Ending → Type 0
NotRefused e = status_of e ≡ 2 → ⊥

stop-not-refused : (x : Stop) (n : ℕ) → NotRefused (ending_at x n)
stop-not-refused Whole n e = cc
stop-not-refused Cut n e = cc
stop-not-refused (Damaged size) n e = cc
stop-not-refused TooLong n e = cc

lack-not-refused : (x : Stop) (n t : ℕ) → NotRefused (lacking_at x n t)
lack-not-refused Whole n t e = cc
lack-not-refused Cut n t e = cc
lack-not-refused (Damaged size) n t e = cc
lack-not-refused TooLong n t e = cc

not-refused : (s : PlainSettings) (k : ℕ) (line : PlainLine) (o : Option Records) → NotRefused (line_run s k line o).ending
not-refused s k line o = line-ends NotRefused stop-not-refused lack-not-refused (λ e. cc) s k line o

abbrev NotUnnamed : Ending → Type 0
NotUnnamed e = e ≡ no_line → ⊥

stop-not-unnamed : (x : Stop) (n : ℕ) → NotUnnamed (ending_at x n)
stop-not-unnamed Whole n e = cc
stop-not-unnamed Cut n e = cc
stop-not-unnamed (Damaged size) n e = cc
stop-not-unnamed TooLong n e = cc

lack-not-unnamed : (x : Stop) (n t : ℕ) → NotUnnamed (lacking_at x n t)
lack-not-unnamed Whole n t e = cc
lack-not-unnamed Cut n t e = cc
lack-not-unnamed (Damaged size) n t e = cc
lack-not-unnamed TooLong n t e = cc

not-unnamed : (s : PlainSettings) (k : ℕ) (line : PlainLine) (o : Option Records) → NotUnnamed (line_run s k line o).ending
not-unnamed s k line o = line-ends NotUnnamed stop-not-unnamed lack-not-unnamed (λ e. cc) s k line o

abbrev NotHeaderless : Ending → Type 0
NotHeaderless e = e ≡ not_capture → ⊥

stop-not-headerless : (x : Stop) (n : ℕ) → NotHeaderless (ending_at x n)
stop-not-headerless Whole n e = cc
stop-not-headerless Cut n e = cc
stop-not-headerless (Damaged size) n e = cc
stop-not-headerless TooLong n e = cc

lack-not-headerless : (x : Stop) (n t : ℕ) → NotHeaderless (lacking_at x n t)
lack-not-headerless Whole n t e = cc
lack-not-headerless Cut n t e = cc
lack-not-headerless (Damaged size) n t e = cc
lack-not-headerless TooLong n t e = cc

-- where it stops with fewer trips
lack-is : (x : Stop) (n t : ℕ) (stop : Stopped) → ending_of_stop stop ≡ ending_at x n → lacking_at x n t ≡ lacking_end stop t
lack-is Whole n t stopped.Whole e = refl
lack-is Whole n t (stopped.Cut r) e = cc
lack-is Whole n t (stopped.Damaged r size) e = cc
lack-is Whole n t (stopped.TooLong r) e = cc
lack-is Cut n t stopped.Whole e = cc
lack-is Cut n t (stopped.Cut r) e = sym e
lack-is Cut n t (stopped.Damaged r size) e = cc
lack-is Cut n t (stopped.TooLong r) e = cc
lack-is (Damaged size) n t stopped.Whole e = cc
lack-is (Damaged size) n t (stopped.Cut r) e = cc
lack-is (Damaged size) n t (stopped.Damaged r m) e = sym e
lack-is (Damaged size) n t (stopped.TooLong r) e = cc
lack-is TooLong n t stopped.Whole e = cc
lack-is TooLong n t (stopped.Cut r) e = cc
lack-is TooLong n t (stopped.Damaged r size) e = cc
lack-is TooLong n t (stopped.TooLong r) e = sym e

-- a record that covers some samples has some lines
pair-some : (common : Common) (line : PlainLine) (k : ℕ) (past : List PlainAsdu) → 0 < length (covered_of common line k past) → pair_items common line k past ≡ [] → ⊥
pair-some common line k past some e =
    let total : length (pair_items common line k past) ≡ 0 = ap length e in
    let parts = length-append (map (config_item line.name) (config_of common line k past)) (map (data_item line.name) (data_of common line k past)) in
    let values : length (map (data_item line.name) (data_of common line k past)) ≡ length (covered_of common line k past) = length-map (data_of common line k past) (data_item line.name) ∙ data_of-length common line k past in
    omega arith

module _ (names : RecordNames) where
  abbrev Accepts : RoomState → PlainSettings → Type 0
  Accepts a s = IsTrue a.tells → accepted (content_of a.contents names.settings) ≡ Ok s

  pub record-refuses : (a : RoomState) (r : Refusal) → accepted (content_of a.contents names.settings) ≡ Err r → run_of (Some (recording names)) a.contents ≡ refused_run r
  record-refuses a r by = ap (λ x. record_by names x (content_of a.contents names.capture)) by

  run-named : (a : RoomState) (s : PlainSettings) (o : Option PlainLine) → accepted (content_of a.contents names.settings) ≡ Ok s → line_named names.line s.lines ≡ o →
      run_of (Some (recording names)) a.contents ≡ named_run s names.trip o (content_of a.contents names.capture)
  run-named a s o by is = ap (λ x. record_by names x (content_of a.contents names.capture)) by ∙ ap (λ l. named_run s names.trip l (content_of a.contents names.capture)) is

  answer-still : {a h : RoomState} → IsUnused a → Staged (Some (recording names)) a h → IsTrue a.tells → h.answer.bytes ≡ []
  answer-still unused stage told = ap (λ (s : SlotState). s.bytes) stage.answer ∙ unused.answer told

  -- no line has the name
  pub unnamed-end : {a b : RoomState} (s : PlainSettings) → Read (recording names) a b → Accepts a s → line_named names.line s.lines ≡ None → Leaves (Some (recording names)) a b no_line
  unnamed-end {a} {b} s read by none = leaves (recording names) no_line read.stage (
    tt,
    read.alone,
    record {
      usage = (λ e. cc, λ e. cc);
      gives = λ told. subst (λ (r : Run). Gives r no_line b) (sym (run-named a s None (by told) none)) (record { ends_as = refl; files = read.empty; answer = answer-none read told });
      started = λ e. cc;
      unstarted = λ _. alone-unstarted read.alone;
      read = read-otherwise (Some (recording names)) 10 (λ e. cc) (λ e. cc);
    },
  )

  -- ---- the capture

  still-unstarted : {d h : RoomState} → IsUnstarted d → OnlyAt Capture d h → IsUnstarted h
  still-unstarted none only = record { each = λ slot file. ap (λ (s : SlotState). s.name) (kept-at slot only (apart slot file)) ∙ none.each slot file }

  stage-capture : {a b d : RoomState} {feed : Feed} {r : Result (Unit {0}) CaptureStop} → Read (recording names) a b → OpensCapture names.capture b d feed r → Staged (Some (recording names)) a d
  stage-capture read capture = staged-at (Some (recording names)) Capture names.capture refl refl read.stage capture.only capture.named capture.later

  -- a call of the capture failed: no output is open
  capture-fault : {a h : RoomState} (s : PlainSettings) (line : PlainLine) → IsUnused a → Staged (Some (recording names)) a h → Laws h → IsUnstarted h → Rose a.capture.faults h.capture.faults →
      Accepts a s → line_named names.line s.lines ≡ Some line → Leaves (Some (recording names)) a h (fault Capture)
  capture-fault {a} {h} s line unused stage law none rose by is = leaves (recording names) (fault Capture) stage (
    (λ e. cc),
    record {
      other = λ e. cc;
      rose = rose;
      used = λ told. refl;
      reached = λ told. unbegun (Some (recording names)) Capture (run_of (Some (recording names)) a.contents).writes (nothing law none) (λ e. cc);
      answer = λ told. (0, answer-still unused stage told);
      settings = λ e. cc;
      capture = λ _. none;
      accepted = λ told two. absurd (not-refused s names.trip line (records (content_of a.contents names.capture) most_capture) (sym (ap (λ (r : Run). status_of r.ending) (run-named a s (Some line) (by told) is)) ∙ two));
      header = λ _ _. inr refl;
      named_line = λ told ten. absurd (not-unnamed s names.trip line (records (content_of a.contents names.capture) most_capture) (sym (ap (λ (r : Run). r.ending) (run-named a s (Some line) (by told) is)) ∙ ten));
      some_trip = λ _ _ _. inr refl;
    },
  )

  pub record-capture-end : {a b d : RoomState} {feed : Feed} (s : PlainSettings) (line : PlainLine) (stop : CaptureStop) → Read (recording names) a b → Accepts a s → line_named names.line s.lines ≡ Some line → Laws d →
      OpensCapture names.capture b d feed (Err stop) → Leaves (Some (recording names)) a d (capture_ending stop)
  record-capture-end {a} {b} {d} s line stop read by is law capture = go stop capture.end
    where
      unstarted : IsUnstarted d
      unstarted = still-unstarted (alone-unstarted read.alone) capture.only

      same : content_of b.contents names.capture ≡ content_of a.contents names.capture
      same = ap (λ cs. content_of cs names.capture) read.stage.contents

      go : (x : CaptureStop) → CaptureEnd names.capture b d x → Leaves (Some (recording names)) a d (capture_ending x)
      go captures.NotCapture end = leaves (recording names) not_capture (stage-capture read capture) (record {
        usage = (λ e. cc, λ e. cc);
        gives = λ told.
            subst (λ (r : Run). Gives r not_capture d) (sym (run-named a s (Some line) (by told) is ∙ ap (line_run s names.trip line) (ap (λ xs. records xs most_capture) (sym same) ∙ (end (read.stage.tells ∙ told)).records most_capture)))
            (record { ends_as = refl; files = nothing law unstarted; answer = answer-still read.unused (stage-capture read capture) told });
        started = λ e. cc;
        unstarted = λ _. unstarted;
        read = read-headerless (recording names) names.capture refl (λ told. subst (λ whole. HasNoHeader whole d.capture.bytes) same (end (read.stage.tells ∙ told)));
      })
      go captures.Fault end = capture-fault s line read.unused (stage-capture read capture) law unstarted
          (let h = read.stage.later Capture in let r : Rose b.capture.faults d.capture.faults = end.rose in omega arith) by is

  -- the capture was heard to its stop, and no output is open
  pub record Stopped-at (a h : RoomState) (s : PlainSettings) (line : PlainLine) (f : Records) : Type 0 where
    pub unused : IsUnused a
    pub stage : Staged (Some (recording names)) a h
    pub settings : h.settings.name ≡ Some names.settings
    pub capture : h.capture.name ≡ Some names.capture
    pub none : IsUnstarted h
    pub run : IsTrue a.tells → run_of (Some (recording names)) a.contents ≡ pair_run s line names.trip f

  module _ {a b d h : RoomState} {feed : Feed} (s : PlainSettings) (line : PlainLine) (read : Read (recording names) a b) (by : Accepts a s) (is : line_named names.line s.lines ≡ Some line)
      (capture : OpensCapture names.capture b d feed (Ok tt)) (law : Laws h) {Stands : List PlainAsdu → Type 0} where
    stage_h : {r : Result Stopped Failed} → Listens Stands (found feed) d h r → Staged (Some (recording names)) a h
    stage_h listens = staged-uses (Some (recording names)) refl refl (stage-capture read capture) (works-reads listens.only listens.stays listens.later)

    none_h : {r : Result Stopped Failed} → Listens Stands (found feed) d h r → IsUnstarted h
    none_h listens = still-unstarted (still-unstarted (alone-unstarted read.alone) capture.only) listens.only

    -- a read failed
    pub listen-fault : (failed : Failed) → Listens Stands (found feed) d h (Err failed) → Leaves (Some (recording names)) a h (fault failed.slot)
    listen-fault failed listens = subst (λ x. Leaves (Some (recording names)) a h (fault x)) (sym listens.end.capture)
        (capture-fault s line read.unused (stage_h listens) law (none_h listens)
        (let x = (stage-capture read capture).later Capture in let r : Rose d.capture.faults h.capture.faults = listens.end.rose in omega arith) by is)

    pub stopped-at : (stop : Stopped) → b.settings.name ≡ Some names.settings → Listens Stands (found feed) d h (Ok stop) → Stopped-at a h s line (found feed d.capture.bytes)
    stopped-at stop named listens = record {
      unused = read.unused;
      stage = stage_h listens;
      settings = ap (λ (x : SlotState). x.name) (kept-at Settings listens.only refl ∙ kept-at Settings capture.only refl) ∙ named;
      capture = listens.stays.name ∙ capture.named;
      none = none_h listens;
      run = λ told.
          let begins : Begins feed (content_of a.contents names.capture) d.capture.bytes = subst (λ cs. Begins feed (content_of cs names.capture) d.capture.bytes) read.stage.contents (capture.begun (read.stage.tells ∙ told)) in
          run-named a s (Some line) (by told) is
          ∙ ap (line_run s names.trip line) (ap (λ xs. records xs most_capture) begins.is ∙ (ap (λ n. records (begins.prefix ++ d.capture.bytes) n) (sym capture.live.1) ∙ begins.all d.capture.bytes));
    }

  module _ {a h : RoomState} {s : PlainSettings} {line : PlainLine} {f : Records} (at_stop : Stopped-at a h s line f) (law : Laws h) where
    abbrev pub trips : ℕ
    trips = trips_of s.common line (heard [] f.bodies)

    told-run : (b : Bool) → nat_le names.trip trips ≡ b → IsTrue a.tells → run_of (Some (recording names)) a.contents
        ≡ (if b then record { ending = ending_at f.stop (length f.bodies); answer = []; writes = pair_items s.common line names.trip (heard [] f.bodies) } else ended (lacking_at f.stop (length f.bodies) trips))
    told-run b is told = at_stop.run told ∙ ap (λ (x : Bool). let r : Run = if x then record { ending = ending_at f.stop (length f.bodies); answer = []; writes = pair_items s.common line names.trip (heard [] f.bodies) } else ended (lacking_at f.stop (length f.bodies) trips) in r) is

    -- ---- fewer trips than asked for

    lacks : (stop : Stopped) (count : ℕ) → (IsTrue a.tells → run_of (Some (recording names)) a.contents ≡ ended (lacking_end stop count)) → Leaves (Some (recording names)) a h (lacking_end stop count)
    lacks stop count is = go stop is
      where
        opens : (e : Ending) → (IsTrue a.tells → run_of (Some (recording names)) a.contents ≡ ended e) → (status : ℕ) → (status ≡ 0 → ⊥) → OpensPair (Some (recording names)) (run_of (Some (recording names)) a.contents) a h status
        opens e by status not = record {
          whole = λ zero_is. absurd (not zero_is);
          either = inr at_stop.none;
          written = λ told some. absurd (some (ap (λ (r : Run). r.writes) (by told)));
          unwritten = λ _ _. at_stop.none;
        }

        gives : (e : Ending) → (IsTrue a.tells → run_of (Some (recording names)) a.contents ≡ ended e) → IsTrue a.tells → Gives (run_of (Some (recording names)) a.contents) e h
        gives e by told = subst (λ (r : Run). Gives r e h) (sym (by told)) (record { ends_as = refl; files = nothing law at_stop.none; answer = answer-still at_stop.unused at_stop.stage told })

        go : (x : Stopped) → (IsTrue a.tells → run_of (Some (recording names)) a.contents ≡ ended (lacking_end x count)) → Leaves (Some (recording names)) a h (lacking_end x count)
        go stopped.Whole by = leaves (recording names) (no_trip count) at_stop.stage (tt, record { usage = (λ e. cc, λ e. cc); gives = gives (no_trip count) by; started = λ e. cc; unstarted = λ _. at_stop.none; read = read-otherwise (Some (recording names)) 9 (λ e. cc) (λ e. cc) })
        go (stopped.Cut n) by = leaves (recording names) (cut n) at_stop.stage (record { usage = (λ e. cc, λ e. cc); gives = gives (cut n) by; started = λ _. opens (cut n) by 4 (λ e. cc); unstarted = λ _. at_stop.none; read = read-otherwise (Some (recording names)) 4 (λ e. cc) (λ e. cc) })
        go (stopped.Damaged n size) by =
            leaves (recording names) (damaged n size) at_stop.stage (record { usage = (λ e. cc, λ e. cc); gives = gives (damaged n size) by; started = λ _. opens (damaged n size) by 5 (λ e. cc); unstarted = λ _. at_stop.none; read = read-otherwise (Some (recording names)) 5 (λ e. cc) (λ e. cc) })
        go (stopped.TooLong n) by = leaves (recording names) (too_long n) at_stop.stage (record { usage = (λ e. cc, λ e. cc); gives = gives (too_long n) by; started = λ _. opens (too_long n) by 8 (λ e. cc); unstarted = λ _. at_stop.none; read = read-otherwise (Some (recording names)) 8 (λ e. cc) (λ e. cc) })

    pub lacking-end : (stop : Stopped) (count : ℕ) → (IsTrue a.tells → ending_of_stop stop ≡ ending_at f.stop (length f.bodies)) → (IsTrue a.tells → count ≡ trips) → (IsTrue a.tells → trips < names.trip) → Leaves (Some (recording names)) a h (lacking_end stop count)
    lacking-end stop count ends counted few = lacks stop count (λ told.
        let fewer : trips < names.trip = few told in
        let short : nat_le names.trip trips ≡ false = grind (arith, nat_tests) in
        told-run false short told ∙ ap ended (lack-is f.stop (length f.bodies) trips stop (ends told) ∙ ap (lacking_end stop) (sym (counted told))))

    -- ---- as many trips as asked for, or more

    -- whether it has the trip, where the room tells
    pub record Has : Type 0 where
      pub enough : nat_le names.trip trips ≡ true
      pub covers : 0 < length (covered_of s.common line names.trip (heard [] f.bodies))

    pub has-by : (count : ℕ) → (count ≢ 0) → count ≡ length (covered_of s.common line names.trip (heard [] f.bodies)) → (trips < names.trip → count ≡ 0) → Has
    has-by count some is few = record {
      enough = elim (cases_Bool (nat_le names.trip trips)) [
        | inl reached ↦ reached
        | inr short ↦ absurd (some (few (grind (arith, nat_tests))))
      ];
      covers = let n = positive count some in omega arith;
    }
      where
        positive : (n : ℕ) → (n ≢ 0) → 0 < n
        positive zero ne = absurd (ne refl)
        positive (suc n) ne = omega arith

    abbrev pair : List Item
    pair = pair_items s.common line names.trip (heard [] f.bodies)

    -- the capture was heard, and outputs are opened or written
    module _ (has : IsTrue a.tells → Has) where
      run-pair : IsTrue a.tells → run_of (Some (recording names)) a.contents ≡ record { ending = ending_at f.stop (length f.bodies); answer = []; writes = pair }
      run-pair told = told-run true (has told).enough told

      -- a call of an output failed
      pair-fault : {x : RoomState} (slot : Slot) → Staged (Some (recording names)) a x → IsWrittenFile slot → Rose (at a slot).faults (at x slot).faults → (IsTrue a.tells → IsTrue (uses (Some (recording names)) slot)) →
          (IsTrue a.tells → Reaches (Some (recording names)) slot pair x) → Leaves (Some (recording names)) a x (fault slot)
      pair-fault {x} slot stage file rose used reached = leaves (recording names) (fault slot) stage (
        (λ e. cc),
        record {
          other = λ e. streams (subst IsWrittenFile e file);
          rose = rose;
          used = used;
          reached = λ told. subst (λ (r : Run). Reaches (Some (recording names)) slot r.writes x) (sym (run-pair told)) (reached told);
          answer = λ told. (0, answer-still at_stop.unused stage told);
          settings = λ e. absurd (streams-settings (subst IsWrittenFile e file));
          capture = λ e. absurd (streams-capture (subst IsWrittenFile e file));
          accepted = λ told two. absurd (stop-not-refused f.stop (length f.bodies) (sym (ap (λ (r : Run). status_of r.ending) (run-pair told)) ∙ two));
          header = λ told three. absurd (stop-not-headerless f.stop (length f.bodies) (sym (ap (λ (r : Run). r.ending) (run-pair told)) ∙ three));
          named_line = λ told ten. absurd (stop-not-unnamed f.stop (length f.bodies) (sym (ap (λ (r : Run). r.ending) (run-pair told)) ∙ ten));
          some_trip = λ told _ none. absurd (pair-some s.common line names.trip (heard [] f.bodies) (has told).covers (sym (ap (λ (r : Run). r.writes) (run-pair told)) ∙ none));
        },
      )
        where
          streams : IsWrittenFile Note → ⊥
          streams e = cc

          streams-settings : IsWrittenFile Settings → ⊥
          streams-settings e = cc

          streams-capture : IsWrittenFile Capture → ⊥
          streams-capture e = cc

      still-empty : {d x : RoomState} {r : Result (Unit {0}) Failed} (slot : Slot) (name : List ℕ) → Staged (Some (recording names)) a d → (IsTrue a.tells → IsWritten [] d) → OpensOutput slot name d x r → IsTrue a.tells → IsWritten [] x
      still-empty {d} {x} slot name stage empty opens told = record {
        each = λ y file. elim (cases_Bool (is_slot slot y)) [
          | inl same ↦ subst (λ z. (at x z).bytes ≡ []) (same-slot slot y same) (opens.empty (stage.tells ∙ told))
          | inr other ↦ ap (λ (z : SlotState). z.bytes) (kept-at y opens.only other) ∙ (empty told).each y file
        ];
      }

      -- an output could not be opened
      open-fault : {d x : RoomState} (slot : Slot) (name : List ℕ) (failed : Failed) → IsWrittenFile slot → word (recording names) slot ≡ Some name → Staged (Some (recording names)) a d → (IsTrue a.tells → IsWritten [] d) →
          OpensOutput slot name d x (Err failed) → Leaves (Some (recording names)) a x (fault failed.slot)
      open-fault {d} {x} slot name failed file is stage empty opens =
          subst (λ y. Leaves (Some (recording names)) a x (fault y)) (sym opens.end.same)
          (pair-fault slot (staged-at (Some (recording names)) slot name (written-file slot file).0 is stage opens.only opens.named opens.later) file
          (let l = stage.later slot in let r : Rose (at d slot).faults (at x slot).faults = opens.end.rose in omega arith)
          (λ told. used-word (Some (recording names)) slot name is)
          (λ told. unbegun (Some (recording names)) slot pair (still-empty slot name stage empty opens told) (λ _ ready. clash (sym (ready slot file (ap is_some is)) ∙ opens.end.shut))))

      pub config-fault : {x : RoomState} (failed : Failed) → OpensOutput Config names.config_file h x (Err failed) → Leaves (Some (recording names)) a x (fault failed.slot)
      config-fault failed opens = open-fault Config names.config_file failed refl refl at_stop.stage (λ told. nothing law at_stop.none) opens

      module _ {x : RoomState} (config : OpensOutput Config names.config_file h x (Ok tt)) where
        stage_x : Staged (Some (recording names)) a x
        stage_x = staged-at (Some (recording names)) Config names.config_file refl refl at_stop.stage config.only config.named config.later

        empty_x : IsTrue a.tells → IsWritten [] x
        empty_x told = still-empty Config names.config_file at_stop.stage (λ _. nothing law at_stop.none) config told

        pub data-fault : {y : RoomState} (failed : Failed) → OpensOutput Data names.data_file x y (Err failed) → Leaves (Some (recording names)) a y (fault failed.slot)
        data-fault failed opens = open-fault Data names.data_file failed refl refl stage_x empty_x opens

        module _ {y : RoomState} (values : OpensOutput Data names.data_file x y (Ok tt)) where
          stage_y : Staged (Some (recording names)) a y
          stage_y = staged-at (Some (recording names)) Data names.data_file refl refl stage_x values.only values.named values.later

          empty_y : IsTrue a.tells → IsWritten [] y
          empty_y told = still-empty Data names.data_file stage_x empty_x values told

          start_y : IsStarted (Some (recording names)) y
          start_y = record { named = named; ready = ready }
            where
              named : (slot : Slot) → IsFile slot → (at y slot).name ≡ word (recording names) slot
              named Settings file = ap (λ (z : SlotState). z.name) (kept-at Settings values.only refl ∙ kept-at Settings config.only refl) ∙ at_stop.settings
              named Capture file = ap (λ (z : SlotState). z.name) (kept-at Capture values.only refl ∙ kept-at Capture config.only refl) ∙ at_stop.capture
              named Goose file = ap (λ (z : SlotState). z.name) (kept-at Goose values.only refl ∙ kept-at Goose config.only refl) ∙ at_stop.none.each Goose refl
              named Log file = ap (λ (z : SlotState). z.name) (kept-at Log values.only refl ∙ kept-at Log config.only refl) ∙ at_stop.none.each Log refl
              named Config file = ap (λ (z : SlotState). z.name) (kept-at Config values.only refl) ∙ config.named
              named Data file = values.named
              named Note file = cc
              named Answer file = cc

              ready : AreReady (Some (recording names)) y
              ready Settings file some = cc
              ready Capture file some = cc
              ready Goose file some = cc
              ready Log file some = cc
              ready Config file some = ap (λ (z : SlotState). z.is_ready) (kept-at Config values.only refl) ∙ config.ready
              ready Data file some = values.ready
              ready Note file some = cc
              ready Answer file some = cc

          module _ {z : RoomState} (only : OnlyWrites y z) where
            stage_z : Staged (Some (recording names)) a z
            stage_z = staged-uses (Some (recording names)) refl refl stage_y only

            start_z : IsStarted (Some (recording names)) z
            start_z = record {
              named = λ slot file. (only.each slot).name ∙ start_y.named slot file;
              ready = λ slot file some. (only.each slot).ready ∙ start_y.ready slot file some;
            }

            written_z : (ws : List Item) → IsTrue a.tells → Appends ws y z → IsWritten ws z
            written_z ws told all = record { each = λ slot file. all.each slot file ∙ ap (λ xs. xs ++ written slot ws) ((empty_y told).each slot file) }

            -- a write failed
            pub write-fault : (failed : Failed) (some : List Item) → FailsIn failed.slot some y z → (IsTrue a.tells → FailsIn failed.slot pair y z) → Leaves (Some (recording names)) a z (fault failed.slot)
            write-fault failed some fails told_fails = pair-fault failed.slot stage_z fails.output
                (let l = stage_y.later failed.slot in let r : Rose (at y failed.slot).faults (at z failed.slot).faults = fails.rose in omega arith)
                (λ told.
                let st = (told_fails told).stops (stage_y.tells ∙ told) in
                in-after (uses (Some (recording names))) st.whole pair failed.slot (in-pair (uses (Some (recording names))) refl refl s.common line names.trip (heard [] f.bodies)) st.next)
                (λ told.
                let st = (told_fails told).stops (stage_y.tells ∙ told) in
                record { whole = st.whole; part = st.part; written = written_z (front st.whole st.part pair) told st.appended; next = λ _ _. st.next })

            -- all was written
            pub pair-end : (stop : Stopped) → (IsTrue a.tells → ending_of_stop stop ≡ ending_at f.stop (length f.bodies)) → (IsTrue a.tells → Appends pair y z) → Leaves (Some (recording names)) a z (ending_of_stop stop)
            pair-end stop ends all = go stop ends
              where
                opens : (status : ℕ) → OpensPair (Some (recording names)) (run_of (Some (recording names)) a.contents) a z status
                opens status = record {
                  whole = λ _. start_z;
                  either = inl start_z;
                  written = λ _ _. start_z;
                  unwritten = λ told none. absurd (pair-some s.common line names.trip (heard [] f.bodies) (has told).covers (sym (ap (λ (r : Run). r.writes) (run-pair told)) ∙ none));
                }

                gives : (e : Ending) → (IsTrue a.tells → e ≡ ending_at f.stop (length f.bodies)) → IsTrue a.tells → Gives (run_of (Some (recording names)) a.contents) e z
                gives e is told = subst (λ (r : Run). Gives r e z) (sym (run-pair told)) (record { ends_as = sym (is told); files = written_z pair told (all told); answer = answer-still at_stop.unused stage_z told })

                go : (x : Stopped) → (IsTrue a.tells → ending_of_stop x ≡ ending_at f.stop (length f.bodies)) → Leaves (Some (recording names)) a z (ending_of_stop x)
                go stopped.Whole is = leaves (recording names) done stage_z (record { usage = (λ e. cc, λ e. cc); gives = gives done is; started = λ _. opens 0; unstarted = λ no. absurd (no refl); read = read-otherwise (Some (recording names)) 0 (λ e. cc) (λ e. cc) })
                go (stopped.Cut n) is = leaves (recording names) (cut n) stage_z (record { usage = (λ e. cc, λ e. cc); gives = gives (cut n) is; started = λ _. opens 4; unstarted = λ no. absurd (no refl); read = read-otherwise (Some (recording names)) 4 (λ e. cc) (λ e. cc) })
                go (stopped.Damaged n size) is = leaves (recording names) (damaged n size) stage_z (record { usage = (λ e. cc, λ e. cc); gives = gives (damaged n size) is; started = λ _. opens 5; unstarted = λ no. absurd (no refl); read = read-otherwise (Some (recording names)) 5 (λ e. cc) (λ e. cc) })
                go (stopped.TooLong n) is = leaves (recording names) (too_long n) stage_z (record { usage = (λ e. cc, λ e. cc); gives = gives (too_long n) is; started = λ _. opens 8; unstarted = λ no. absurd (no refl); read = read-otherwise (Some (recording names)) 8 (λ e. cc) (λ e. cc) })
