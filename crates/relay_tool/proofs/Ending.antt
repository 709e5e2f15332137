-- From what a command leaves, by the note, to the answer.
use Rattle.std.proofs.Common.{◌≡◌, ◌≢◌, ◌∙◌, inl, inr, ℕ, ◌≤◌, false, IsTrue, List, [], ◌++◌, take, refl, sym, ap, subst, arith, lit≤}
use Rattle.std.specs.Prelude.{Option, None, Some, Result, Ok, Err, OnOk, OnErr, IsSome}
use Rattle.std.proofs.lemmas.Bool.{cases_Bool}
use Rattle.room_io.specs.Room.{RoomState, SlotState, at, OnlyAt, Rose, IsFile, AppendsPart}
use Rattle.room_io.specs.declared.room.Slot.{Slot}
use Rattle.room_io.specs.declared.room.Slot.TheVariants.{Settings, Capture, Goose, Log, Config, Data, Note, Answer}
use Rattle.capture_feed.specs.Left.{HasNoHeader}
use Rattle.relay_tool.specs.Endings.{Ending, status_of, note_of, done, usage, refused, not_capture, cut, damaged, too_long, fault, no_memory, no_trip, no_line}
use Rattle.relay_tool.specs.Words.{Asked, replay, check, drill, study, recording, word_of}
use Rattle.relay_tool.specs.Output.{Item}
use Rattle.relay_tool.specs.Run.{Run, Job, replay_job, study_job, run_of, content_of, all_writes}
use Rattle.relay_tool.specs.Files.{IsWritten, Reaches, AreReady, AreNamed, IsNamedBy, IsUnstarted, HasSettingsAlone, IsStarted, is_slot, front}
use Rattle.relay_tool.specs.Answers.{AnswersTo, IsNoted, JobFault, CaptureFault, FailsAt, IsRecording, most_status, OpensPair, HasOpened, HasRead}
use Rattle.relay_tool.specs.Leaving.{Gives, Completes, Leaves}
use Rattle.relay_tool.proofs.Slots.{same-slot, kept-at}
use Rattle.relay_tool.proofs.Reading.{read-otherwise}
use Rattle.relay_tool.proofs.Staging.{Laws, written-file, alone-unstarted}

-- ---- the note

-- a write of the note, at whatever answer
whole_or : {E : Type 0} (result : Result (Unit {0}) E) (W R : Type 0) → OnOk result W → OnErr result R → (R → ⊥) → W
whole_or (Ok u) W R w r not = w
whole_or (Err e) W R w r not = absurd (not r)

pub noted : {E : Type 0} (result : Result (Unit {0}) E) (text : List ℕ) (old mid new : RoomState) → mid.note ≡ old.note → old.note.bytes ≡ [] → IsTrue mid.tells → OnOk result (IsTrue mid.tells → new.note.bytes ≡ mid.note.bytes ++ text) → (IsTrue mid.tells → AppendsPart mid.note.bytes new.note.bytes text) → OnErr result (Rose mid.note.faults new.note.faults) → IsNoted text old new
noted result text old mid new same empty told whole part rose =
    let none : mid.note.bytes ≡ [] = ap (λ (slot : SlotState). slot.bytes) same ∙ empty in
    let p = part told in
    record {
      front = (p.0, p.2 ∙ ap (λ xs. xs ++ take p.0 text) none);
      whole = λ not.
          whole_or result (IsTrue mid.tells → new.note.bytes ≡ mid.note.bytes ++ text) (Rose mid.note.faults new.note.faults) whole rose (λ r. not (subst (λ (slot : SlotState). Rose slot.faults new.note.faults) same r)) told
          ∙ ap (λ xs. xs ++ text) none;
    }

-- ---- what the note's write leaves

not-note : (slot : Slot) → slot ≢ Note → is_slot Note slot ≡ false
not-note slot ne = elim (cases_Bool (is_slot Note slot)) [ inl same ↦ absurd (ne (sym (same-slot Note slot same))) | inr other ↦ other ]

file-not-note : (slot : Slot) → IsFile slot → is_slot Note slot ≡ false
file-not-note Settings e = refl
file-not-note Capture e = refl
file-not-note Goose e = refl
file-not-note Log e = refl
file-not-note Config e = refl
file-not-note Data e = refl
file-not-note Note e = cc
file-not-note Answer e = cc

module _ {mid new : RoomState} (only : OnlyAt Note mid new) where
  kept : (slot : Slot) → IsFile slot → at new slot ≡ at mid slot
  kept slot file = kept-at slot only (file-not-note slot file)

  answer-new : new.answer ≡ mid.answer
  answer-new = kept-at Answer only refl

  written-new : (ws : List Item) → IsWritten ws mid → IsWritten ws new
  written-new ws w = record { each = λ slot file. ap (λ (s : SlotState). s.bytes) (kept slot (written-file slot file).0) ∙ w.each slot file }

  unstarted-new : IsUnstarted mid → IsUnstarted new
  unstarted-new none = record { each = λ slot file. ap (λ (s : SlotState). s.name) (kept slot (written-file slot file).0) ∙ none.each slot file }

  alone-new : HasSettingsAlone mid → HasSettingsAlone new
  alone-new none = record { each = λ slot file ne. ap (λ (s : SlotState). s.name) (kept slot file) ∙ none.each slot file ne }

  ready-old : (asked : Option Asked) → AreReady asked new → AreReady asked mid
  ready-old asked ready slot file some = sym (ap (λ (s : SlotState). s.is_ready) (kept slot (written-file slot file).0)) ∙ ready slot file some

  started-new : (asked : Option Asked) → IsStarted asked mid → IsStarted asked new
  started-new asked s = record {
    named = λ slot file. ap (λ (x : SlotState). x.name) (kept slot file) ∙ s.named slot file;
    ready = λ slot file some. ap (λ (x : SlotState). x.is_ready) (kept slot (written-file slot file).0) ∙ s.ready slot file some;
  }

  named-new : (asked : Option Asked) → AreNamed asked mid → AreNamed asked new
  named-new asked named slot file = subst (λ (s : SlotState). IsNamedBy (word_of asked slot) s.name) (sym (kept slot file)) (named slot file)

  reaches-new : (asked : Option Asked) (slot : Slot) (ws : List Item) → Reaches asked slot ws mid → Reaches asked slot ws new
  reaches-new asked slot ws r = record { whole = r.whole; part = r.part; written = written-new (front r.whole r.part ws) r.written; next = λ file ready. r.next file (ready-old asked ready) }

  job-new : (asked : Asked) (job : Job) (old : RoomState) → JobFault asked job old mid → JobFault asked job old new
  job-new asked job old (inl early) =
      inl (record {
        unstarted = unstarted-new early.unstarted;
        taken = λ told ready.
            let t = early.taken told (sym (ap (λ (s : SlotState). s.is_ready) (kept Capture refl)) ∙ ready) in
            (t.0, t.1, t.2 ∙ ap (λ (s : SlotState). t.0 ++ s.bytes) (sym (kept Capture refl)));
      })
  job-new asked job old (inr late) =
      inr (record {
        started = started-new (Some asked) late.started;
        ready = ap (λ (s : SlotState). s.is_ready) (kept Capture refl) ∙ late.ready;
        reached = λ told.
            let r = late.reached told in
            record {
              settings = r.settings;
              accepted = r.accepted;
              taken = r.taken;
              long = r.long;
              is = r.is ∙ ap (λ (s : SlotState). r.taken ++ s.bytes) (sym (kept Capture refl));
              found = r.found;
              records = r.records;
              written = written-new (all_writes job r.settings r.found.bodies) r.written;
            };
      })

  capture-new : (asked : Option Asked) (old : RoomState) → CaptureFault asked old mid → CaptureFault asked old new
  capture-new (Some (replay names)) old failed = job-new (replay names) (replay_job names) old failed
  capture-new (Some (study s names)) old failed = job-new (study s names) (study_job s names) old failed
  capture-new (Some (recording names)) old none = unstarted-new none
  capture-new (Some (check settings)) old none = none
  capture-new (Some (drill seed seconds)) old none = none
  capture-new None old none = none

  fails-new : (asked : Option Asked) (slot : Slot) (run : Run) (old : RoomState) → FailsAt asked slot run old mid → FailsAt asked slot run old new
  fails-new asked slot run old fails = record {
    other = fails.other;
    rose = subst (λ (s : SlotState). Rose (at old slot).faults s.faults) (sym (kept-at slot only (not-note slot fails.other))) fails.rose;
    used = fails.used;
    reached = λ told. reaches-new asked slot run.writes (fails.reached told);
    answer = λ told. let a = fails.answer told in (a.0, ap (λ (s : SlotState). s.bytes) answer-new ∙ a.1);
    settings = λ e. alone-new (fails.settings e);
    capture = λ e. capture-new asked old (fails.capture e);
    accepted = fails.accepted;
    header = fails.header;
    named_line = fails.named_line;
    some_trip = fails.some_trip;
  }

  pair-new : (asked : Option Asked) (run : Run) (old : RoomState) (status : ℕ) → OpensPair asked run old mid status → OpensPair asked run old new status
  pair-new asked run old status opens = record {
    whole = λ e. started-new asked (opens.whole e);
    either = elim opens.either [ inl start ↦ inl (started-new asked start) | inr none ↦ inr (unstarted-new none) ];
    written = λ told some. started-new asked (opens.written told some);
    unwritten = λ told none. unstarted-new (opens.unwritten told none);
  }

  opened-new : (asked : Option Asked) (run : Run) (old : RoomState) (status : ℕ) → HasOpened asked run old mid status → HasOpened asked run old new status
  opened-new None run old status start = started-new None start
  opened-new (Some (replay names)) run old status start = started-new (Some (replay names)) start
  opened-new (Some (check settings)) run old status start = started-new (Some (check settings)) start
  opened-new (Some (drill seed seconds)) run old status start = started-new (Some (drill seed seconds)) start
  opened-new (Some (study s names)) run old status start = started-new (Some (study s names)) start
  opened-new (Some (recording names)) run old status opens = pair-new (Some (recording names)) run old status opens

  read-new : (asked : Option Asked) (old : RoomState) (status : ℕ) → HasRead asked old mid status → HasRead asked old new status
  read-new asked old status read = record {
    settings = λ told e name is. ap (λ (s : SlotState). s.bytes) (kept Settings refl) ∙ read.settings told e name is;
    capture = λ told e name is. subst (λ (s : SlotState). HasNoHeader (content_of old.contents name) s.bytes) (sym (kept Capture refl)) (read.capture told e name is);
  }

  gives-new : (run : Run) (ending : Ending) → Gives run ending mid → Gives run ending new
  gives-new run ending g = record { ends_as = g.ends_as; files = written-new run.writes g.files; answer = ap (λ (s : SlotState). s.bytes) answer-new ∙ g.answer }

  later-new : (old : RoomState) → ((slot : Slot) → (at old slot).faults ≤ (at mid slot).faults) → mid.note.faults ≤ new.note.faults → (slot : Slot) → (at old slot).faults ≤ (at new slot).faults
  later-new old later note slot = elim (cases_Bool (is_slot Note slot)) [
    | inl same ↦ subst (λ x. (at old x).faults ≤ (at new x).faults) (same-slot Note slot same) (let h = later Note in omega arith)
    | inr other ↦ (let h = later slot in let k = ap (λ (s : SlotState). s.faults) (kept-at slot only other) in omega arith)
  ]

-- ---- the answer

-- the statuses that every command has
most-all : (asked : Option Asked) (n : ℕ) → n ≤ 8 → n ≤ most_status asked
most-all None n h = h
most-all (Some (replay names)) n h = h
most-all (Some (check settings)) n h = h
most-all (Some (drill seed seconds)) n h = h
most-all (Some (study s names)) n h = h
most-all (Some (recording names)) n h = omega arith

-- and those that `record` has
most-recording : (asked : Option Asked) (n : ℕ) → IsRecording asked → n ≤ 10 → n ≤ most_status asked
most-recording None n is h = absurd is
most-recording (Some (replay names)) n is h = absurd is
most-recording (Some (check settings)) n is h = absurd is
most-recording (Some (drill seed seconds)) n is h = absurd is
most-recording (Some (study s names)) n is h = absurd is
most-recording (Some (recording names)) n is h = h

module _ (asked : Option Asked) (old mid new : RoomState) (law : Laws new) (only : OnlyAt Note mid new) (later : mid.note.faults ≤ new.note.faults) where
  -- neither a fault nor want of memory ended it
  completed : (ending : Ending) → status_of ending ≤ most_status asked → status_of ending ≢ 6 → status_of ending ≢ 7 → (status_of ending ≡ 10 → HasSettingsAlone mid) → Leaves asked old mid ending → Completes asked ending old mid → (IsTrue old.tells → IsNoted (note_of ending) old new) → AnswersTo asked old new (status_of ending)
  completed ending known not6 not7 alone work end note = record {
    known = known;
    usage = end.usage;
    result = λ w. ap status_of (sym (end.gives w.0).ends_as);
    note = λ w. subst (λ e. IsNoted (note_of e) old new) (sym (end.gives w.0).ends_as) (note w.0);
    files = λ w. (gives-new only (run_of asked old.contents) ending (end.gives w.0)).files;
    answer = λ w. (gives-new only (run_of asked old.contents) ending (end.gives w.0)).answer;
    fault = λ e. absurd (not6 e);
    memory = λ e. absurd (not7 e);
    memory_note = λ e. absurd (not7 e);
    started = λ e. opened-new only asked (run_of asked old.contents) old (status_of ending) (end.started e);
    unstarted = λ not_end _. unstarted-new only (end.unstarted not_end);
    unopened = λ e. alone-new only (alone e);
    read = read-new only asked old (status_of ending) end.read;
    named = named-new only asked work.named;
    unready = λ slot file _ none. (law.unopened slot file none).not_ready;
    later = later-new only old work.later later;
    quiet = λ _. not6;
    complete = λ told e _. inl (ap status_of (sym (end.gives told).ends_as ∙ e));
    settled = λ told _. inl (ap status_of (sym (end.gives told).ends_as));
  }

  faulted : (slot : Slot) → Leaves asked old mid (fault slot) → (IsTrue old.tells → IsNoted (note_of (fault slot)) old new) → AnswersTo asked old new 6
  faulted slot work note =
      let fails = fails-new only asked slot (run_of asked old.contents) old work.end.1 in
      record {
        known = most-all asked 6 (lit≤ tt);
        usage = (λ e. cc, λ e. absurd (work.end.0 e));
        result = λ w. absurd (w.1 refl);
        note = λ w. absurd (w.1 refl);
        files = λ w. absurd (w.1 refl);
        answer = λ w. absurd (w.1 refl);
        fault = λ _. record { slot = slot; fails = fails; note = note };
        memory = λ e. cc;
        memory_note = λ e. cc;
        started = λ e. cc;
        unstarted = λ _ not6. absurd (not6 refl);
        unopened = λ e. cc;
        read = read-otherwise asked 6 (λ e. cc) (λ e. cc);
        named = named-new only asked work.named;
        unready = λ s file _ none. (law.unopened s file none).not_ready;
        later = later-new only old work.later later;
        quiet = λ quiet _. quiet slot fails.other fails.rose;
        complete = λ _ _ quiet. absurd (quiet slot fails.other fails.rose);
        settled = λ _ quiet. absurd (quiet slot fails.other fails.rose);
      }

  forgotten : Leaves asked old mid no_memory → (IsTrue old.tells → IsNoted (note_of no_memory) old new) → AnswersTo asked old new 7
  forgotten work note = record {
    known = most-all asked 7 (lit≤ tt);
    usage = (λ e. cc, λ e. absurd (some-none work.end.form e));
    result = λ w. absurd (w.2 refl);
    note = λ w. absurd (w.2 refl);
    files = λ w. absurd (w.2 refl);
    answer = λ w. absurd (w.2 refl);
    fault = λ e. cc;
    memory = λ _. record { form = work.end.form; unopened = alone-new only work.end.unopened; answer = λ told. ap (λ (s : SlotState). s.bytes) (answer-new only) ∙ work.end.answer told };
    memory_note = λ _. note;
    started = λ e. cc;
    unstarted = λ _ _. unstarted-new only (alone-unstarted work.end.unopened);
    unopened = λ e. cc;
    read = read-otherwise asked 7 (λ e. cc) (λ e. cc);
    named = named-new only asked work.named;
    unready = λ slot file _ none. (law.unopened slot file none).not_ready;
    later = later-new only old work.later later;
    quiet = λ _ e. cc;
    complete = λ _ _ _. inr (refl, unstarted-new only (alone-unstarted work.end.unopened));
    settled = λ _ _. inr (refl, unstarted-new only (alone-unstarted work.end.unopened));
  }
    where
      some-none : {o : Option Asked} → IsSome o → o ≡ None → ⊥
      some-none s e = cc

  pub answers : (ending : Ending) → Leaves asked old mid ending → (IsTrue old.tells → IsNoted (note_of ending) old new) → AnswersTo asked old new (status_of ending)
  answers done work note = completed done (most-all asked 0 (lit≤ tt)) (λ e. cc) (λ e. cc) (λ e. cc) work work.end note
  answers usage work note = completed usage (most-all asked 1 (lit≤ tt)) (λ e. cc) (λ e. cc) (λ e. cc) work work.end note
  answers (refused number key) work note = completed (refused number key) (most-all asked 2 (lit≤ tt)) (λ e. cc) (λ e. cc) (λ e. cc) work work.end note
  answers not_capture work note = completed not_capture (most-all asked 3 (lit≤ tt)) (λ e. cc) (λ e. cc) (λ e. cc) work work.end note
  answers (cut n) work note = completed (cut n) (most-all asked 4 (lit≤ tt)) (λ e. cc) (λ e. cc) (λ e. cc) work work.end note
  answers (damaged n size) work note = completed (damaged n size) (most-all asked 5 (lit≤ tt)) (λ e. cc) (λ e. cc) (λ e. cc) work work.end note
  answers (too_long n) work note = completed (too_long n) (most-all asked 8 (lit≤ tt)) (λ e. cc) (λ e. cc) (λ e. cc) work work.end note
  answers (fault slot) work note = faulted slot work note
  answers no_memory work note = forgotten work note
  answers (no_trip trips) work note = completed (no_trip trips) (most-recording asked 9 work.end.0 (lit≤ tt)) (λ e. cc) (λ e. cc) (λ e. cc) work work.end.1 note
  answers no_line work note = completed no_line (most-recording asked 10 work.end.0 (lit≤ tt)) (λ e. cc) (λ e. cc) (λ _. work.end.1) work work.end.2 note
