-- The ends of a command over a capture, and of what it shares with other commands.
use Rattle.std.proofs.Common.{◌≡◌, ◌≢◌, ◌∙◌, inl, inr, ℕ, Bool, false, IsTrue, List, [], ◌++◌, length, refl, sym, ap, subst, arith, append_assoc, append-nil, length-append}
use Rattle.std.specs.Prelude.{Option, None, Some, Result, Ok, Err, is_some}
use Rattle.std.proofs.lemmas.Bool.{cases_Bool}
use Rattle.room_io.specs.Room.{RoomState, SlotState, at, Rose, IsFile, IsUnused}
use Rattle.room_io.specs.declared.room.Slot.{Slot}
use Rattle.room_io.specs.declared.room.Slot.TheVariants.{Settings, Capture, Goose, Log, Config, Data, Note, Answer}
use Rattle.capture_feed.specs.Records.{Records, Stop, Whole, Damaged, Cut, TooLong}
use Rattle.capture_feed.specs.Captures.{records}
use Rattle.capture_feed.specs.Left.{found, Begins, HasNoHeader}
use Rattle.capture_feed.specs.declared.feed.Feed.{Feed}
use Rattle.relay_settings.specs.Settings.{PlainSettings}
use Rattle.relay_settings.specs.declared.types.Settings.{Settings as SettingsRead}
use Rattle.settings_read.specs.Walk.{Refusal, refused as refusal}
use Rattle.settings_read.specs.Accepted.{accepted}
use Rattle.relay_tool.specs.Endings.{Ending, status_of, done, refused, not_capture, no_line, cut, damaged, too_long, fault, no_memory}
use Rattle.relay_tool.specs.Words.{Names, StudyNames, Study, Asked, replay, check, drill, study, recording, word}
use Rattle.relay_tool.specs.Output.{Item, heard_items, study_items, out}
use Rattle.relay_tool.specs.Run.{Run, Job, replay_job, study_job, refused_run, run_of, job_by, job_run, records_run, content_of, ending_at, all_writes, most_capture}
use Rattle.relay_tool.specs.Answers.{JobFault, CaptureFault, IsRecording, uses, HasOpened}
use Rattle.relay_tool.specs.Files.{IsWritten, IsWrittenFile, AreReady, Reaches, IsUnstarted, HasSettingsAlone, IsStarted, is_slot, is_written, written, front}
use Rattle.relay_tool.specs.Making.{OnlyUses, Appends, StopsAt, FailsIn, Makes}
use Rattle.relay_tool.specs.Leaving.{Gives, EndsAs, Leaves}
use Rattle.relay_tool.specs.Accepting.{ReadsSettings, SettingsEnd, settings_ending}
use Rattle.relay_tool.specs.Opening.{OpensCapture, CaptureEnd, capture_ending, OpensOutput}
use Rattle.relay_tool.specs.Running.{Runs, StopsAsFound, BreaksOff, ending_of_stop}
use Rattle.relay_tool.specs.declared.settings.SettingsStop.{SettingsStop}
use Rattle.relay_tool.specs.declared.settings.SettingsStop.TheVariants as stops
use Rattle.relay_tool.specs.declared.files.CaptureStop.{CaptureStop}
use Rattle.relay_tool.specs.declared.files.CaptureStop.TheVariants as captures
use Rattle.relay_tool.specs.declared.put.Failed.{Failed}
use Rattle.relay_tool.specs.declared.run.Stopped.{Stopped}
use Rattle.relay_tool.specs.declared.run.Stopped.TheVariants as stopped
use Rattle.relay_tool.proofs.Slots.{kept-at, same-slot, clash}
use Rattle.relay_tool.proofs.Placing.{AreIn, in-after, in-heard, in-study, in-out}
use Rattle.relay_tool.proofs.Writing.{OnlyUses-refl, Appends-more, FailsIn-lift, Appends-nothing}
use Rattle.relay_tool.proofs.Reading.{read-refused, read-headerless, read-otherwise}
use Rattle.relay_tool.proofs.Staging.{Staged, Laws, staged-none, staged-at, staged-uses, used-word, unused-name, written-file, nothing, unbegun, front-all, alone-unstarted}

-- ---- the settings

-- the settings were read, and nothing else was done
pub record Read (asked : Asked) (a b : RoomState) : Type 0 where
  pub unused : IsUnused a
  pub stage : Staged (Some asked) a b
  pub alone : HasSettingsAlone b
  pub empty : IsWritten [] b

pub read-by : (asked : Asked) (name : List ℕ) {a b : RoomState} {r : Result SettingsRead SettingsStop} → word asked Settings ≡ Some name → IsUnused a → Laws b → ReadsSettings name a b r → Read asked a b
read-by asked name {a} {b} {r} is unused law reads =
    let alone : HasSettingsAlone b = record { each = λ slot file ne. ap (λ (s : SlotState). s.name) (kept-at slot reads.only (apart slot ne)) ∙ unused-name unused slot file } in
    record {
      unused = unused;
      stage = staged-at (Some asked) Settings name refl is (staged-none (Some asked) unused) reads.only reads.named reads.later;
      alone = alone;
      empty = nothing law (alone-unstarted alone);
    }
  where
    apart : (slot : Slot) → slot ≢ Settings → is_slot Settings slot ≡ false
    apart Settings ne = absurd (ne refl)
    apart Capture ne = refl
    apart Goose ne = refl
    apart Log ne = refl
    apart Config ne = refl
    apart Data ne = refl
    apart Note ne = refl
    apart Answer ne = refl

pub answer-none : {asked : Asked} {a b : RoomState} → Read asked a b → IsTrue a.tells → b.answer.bytes ≡ []
answer-none read told = ap (λ (s : SlotState). s.bytes) read.stage.answer ∙ read.unused.answer told

pub leaves : (asked : Asked) {a h : RoomState} (ending : Ending) → Staged (Some asked) a h → EndsAs (Some asked) a h ending → Leaves (Some asked) a h ending
leaves asked ending stage end = record { tells = stage.tells; note = stage.note; named = stage.named; later = stage.later; end = end }

-- want of memory ends it
pub memory-end : (asked : Asked) {a b : RoomState} → Read asked a b → Leaves (Some asked) a b no_memory
memory-end asked read = leaves asked no_memory read.stage (record { form = refl; unopened = read.alone; answer = answer-none read })

-- they end the run
pub settings-end : (asked : Asked) (name : List ℕ) {a b : RoomState} (stop : SettingsStop) → word asked Settings ≡ Some name → Read asked a b →
    ((r : Refusal) → accepted (content_of a.contents name) ≡ Err r → run_of (Some asked) a.contents ≡ refused_run r) → SettingsEnd name a b stop → Leaves (Some asked) a b (settings_ending stop)
settings-end asked name {a} {b} stops.Fault is read refuses end = leaves asked (fault Settings) read.stage (
  (λ e. cc),
  record {
    other = λ e. cc;
    rose = end;
    used = λ told. used-word (Some asked) Settings name is;
    reached = λ told. unbegun (Some asked) Settings (run_of (Some asked) a.contents).writes read.empty (λ e. cc);
    answer = λ told. (0, answer-none read told);
    settings = λ _. read.alone;
    capture = λ e. cc;
    accepted = λ _ _. refl;
    header = λ _ _. inl refl;
    named_line = λ _ _. refl;
    some_trip = λ _ _ _. inl refl;
  },
)
settings-end asked name {a} {b} (stops.Refused number key) is read refuses end = leaves asked (refused number key.bytes) read.stage (record {
  usage = (λ e. cc, λ e. cc);
  gives = λ told. subst (λ (r : Run). Gives r (refused number key.bytes) b) (sym (refuses (refusal number key.bytes) (end told).accepted)) (record { ends_as = refl; files = read.empty; answer = answer-none read told });
  started = λ e. cc;
  unstarted = λ _. alone-unstarted read.alone;
  read = read-refused asked name is (λ told. (end told).left);
})
settings-end asked name stops.NoMemory is read refuses end = memory-end asked read

-- ---- the capture

-- where the settings are accepted the run isn't refused
not-refused : (job : Job) (s : PlainSettings) (o : Option Records) → status_of (records_run job s o).ending ≡ 2 → ⊥
not-refused job s None e = cc
not-refused job s (Some found) e = stop found.stop e
  where
    stop : (x : Stop) → status_of (ending_at x (length found.bodies)) ≡ 2 → ⊥
    stop Whole p = cc
    stop Cut p = cc
    stop (Damaged size) p = cc
    stop TooLong p = cc

-- and where the capture has records it is one
not-not_capture : (x : Stop) (n : ℕ) → ending_at x n ≡ not_capture → ⊥
not-not_capture Whole n p = cc
not-not_capture Cut n p = cc
not-not_capture (Damaged size) n p = cc
not-not_capture TooLong n p = cc

-- a command over a capture looks up no name
not-no_line : (job : Job) (s : PlainSettings) (o : Option Records) → (records_run job s o).ending ≡ no_line → ⊥
not-no_line job s None e = cc
not-no_line job s (Some found) e = stop found.stop e
  where
    stop : (x : Stop) → ending_at x (length found.bodies) ≡ no_line → ⊥
    stop Whole p = cc
    stop Cut p = cc
    stop (Damaged size) p = cc
    stop TooLong p = cc

-- where the command isn't `record`, all its files are open
pub opened-by : (asked : Asked) → (IsRecording (Some asked) → ⊥) → (run : Run) (old : RoomState) (status : ℕ) {new : RoomState} → IsStarted (Some asked) new → HasOpened (Some asked) run old new status
opened-by (replay names) other run old status start = start
opened-by (check name) other run old status start = start
opened-by (drill seed seconds) other run old status start = start
opened-by (study s names) other run old status start = start
opened-by (recording names) other run old status start = absurd (other tt)

-- a command over a capture is asked by its words
pub record IsJob (asked : Asked) (job : Job) : Type 0 where
  pub settings_word : word asked Settings ≡ Some job.settings
  pub capture_word : word asked Capture ≡ Some job.capture
  pub runs : (contents : List (List ℕ × List ℕ)) → run_of (Some asked) contents ≡ job_run job contents
  pub faults : (old new : RoomState) → JobFault asked job old new → CaptureFault (Some asked) old new
  pub other : IsRecording (Some asked) → ⊥
  pub places : (s : PlainSettings) (bodies : List (List ℕ)) → AreIn (uses (Some asked)) (all_writes job s bodies)

pub replay-is : (names : Names) → IsJob (replay names) (replay_job names)
replay-is names = record {
  settings_word = refl;
  capture_word = refl;
  runs = λ contents. refl;
  faults = λ old new fault. fault;
  other = λ e. e;
  places = λ s bodies. (refl, in-out (uses (Some (replay names))) refl (heard_items s) (in-heard (uses (Some (replay names))) refl refl s) bodies);
}

pub study-is : (s : Study) (names : StudyNames) → IsJob (study s names) (study_job s names)
study-is s names = record {
  settings_word = refl;
  capture_word = refl;
  runs = λ contents. refl;
  faults = λ old new fault. fault;
  other = λ e. e;
  places = λ settings bodies. in-out (uses (Some (study s names))) refl (study_items s settings) (in-study (uses (Some (study s names))) refl s settings) bodies;
}

module _ (asked : Asked) (job : Job) (is : IsJob asked job) where
  abbrev Accepts : RoomState → PlainSettings → Type 0
  Accepts a s = IsTrue a.tells → accepted (content_of a.contents job.settings) ≡ Ok s

  run-by : (a : RoomState) (s : PlainSettings) → accepted (content_of a.contents job.settings) ≡ Ok s → run_of (Some asked) a.contents ≡ records_run job s (records (content_of a.contents job.capture) most_capture)
  run-by a s by = is.runs a.contents ∙ ap (λ x. job_by job x (content_of a.contents job.capture)) by

  pub refuses : (a : RoomState) (r : Refusal) → accepted (content_of a.contents job.settings) ≡ Err r → run_of (Some asked) a.contents ≡ refused_run r
  refuses a r by = is.runs a.contents ∙ ap (λ x. job_by job x (content_of a.contents job.capture)) by

  -- the outputs are not opened yet
  pub unopened-outputs : {a b d : RoomState} {feed : Feed} {r : Result (Unit {0}) CaptureStop} → Read asked a b → OpensCapture job.capture b d feed r → IsUnstarted d
  unopened-outputs {a} {b} {d} read capture = record { each = go }
    where
      go : (slot : Slot) → IsWrittenFile slot → (at d slot).name ≡ None
      go Settings file = cc
      go Capture file = cc
      go Goose file = ap (λ (s : SlotState). s.name) (kept-at Goose capture.only refl) ∙ read.alone.each Goose refl (λ e. cc)
      go Log file = ap (λ (s : SlotState). s.name) (kept-at Log capture.only refl) ∙ read.alone.each Log refl (λ e. cc)
      go Config file = ap (λ (s : SlotState). s.name) (kept-at Config capture.only refl) ∙ read.alone.each Config refl (λ e. cc)
      go Data file = ap (λ (s : SlotState). s.name) (kept-at Data capture.only refl) ∙ read.alone.each Data refl (λ e. cc)
      go Note file = cc
      go Answer file = cc

  stage-capture : {a b d : RoomState} {feed : Feed} {r : Result (Unit {0}) CaptureStop} → Read asked a b → OpensCapture job.capture b d feed r → Staged (Some asked) a d
  stage-capture read capture = staged-at (Some asked) Capture job.capture refl is.capture_word read.stage capture.only capture.named capture.later

  answer-still : {a h : RoomState} → IsUnused a → Staged (Some asked) a h → IsTrue a.tells → h.answer.bytes ≡ []
  answer-still unused stage told = ap (λ (s : SlotState). s.bytes) stage.answer ∙ unused.answer told

  -- it ends the run
  pub capture-end : {a b d : RoomState} {feed : Feed} (s : PlainSettings) (stop : CaptureStop) → Read asked a b → Accepts a s → Laws d → OpensCapture job.capture b d feed (Err stop) → Leaves (Some asked) a d (capture_ending stop)
  capture-end {a} {b} {d} s stop read by law capture = go stop capture.end
    where
      told_b : IsTrue a.tells → IsTrue b.tells
      told_b told = read.stage.tells ∙ told

      same : content_of b.contents job.capture ≡ content_of a.contents job.capture
      same = ap (λ cs. content_of cs job.capture) read.stage.contents

      unstarted : IsUnstarted d
      unstarted = unopened-outputs read capture

      go : (x : CaptureStop) → CaptureEnd job.capture b d x → Leaves (Some asked) a d (capture_ending x)
      go captures.NotCapture end = leaves asked not_capture (stage-capture read capture) (record {
        usage = (λ e. cc, λ e. cc);
        gives = λ told.
            subst (λ (r : Run). Gives r not_capture d) (sym (run-by a s (by told) ∙ ap (records_run job s) (ap (λ xs. records xs most_capture) (sym same) ∙ (end (told_b told)).records most_capture)))
            (record { ends_as = refl; files = nothing law unstarted; answer = answer-still read.unused (stage-capture read capture) told });
        started = λ e. cc;
        unstarted = λ _. unstarted;
        read = read-headerless asked job.capture is.capture_word (λ told. subst (λ whole. HasNoHeader whole d.capture.bytes) same (end (told_b told)));
      })
      go captures.Fault end = leaves asked (fault Capture) (stage-capture read capture) (
        (λ e. cc),
        record {
          other = λ e. cc;
          rose = (let h = read.stage.later Capture in let r : Rose b.capture.faults d.capture.faults = end.rose in omega arith);
          used = λ told. used-word (Some asked) Capture job.capture is.capture_word;
          reached = λ told. unbegun (Some asked) Capture (run_of (Some asked) a.contents).writes (nothing law unstarted) (λ e. cc);
          answer = λ told. (0, answer-still read.unused (stage-capture read capture) told);
          settings = λ e. cc;
          capture = λ _. is.faults a d (inl (record { unstarted = unstarted; taken = λ told ready. let t = end.taken (told_b told) ready in (t.0, t.1, sym same ∙ t.2) }));
          accepted = λ told two. absurd (not-refused job s (records (content_of a.contents job.capture) most_capture) (sym (ap (λ (r : Run). status_of r.ending) (run-by a s (by told))) ∙ two));
          header = λ _ _. inr refl;
          named_line = λ told ten. absurd (not-no_line job s (records (content_of a.contents job.capture) most_capture) (sym (ap (λ (r : Run). r.ending) (run-by a s (by told))) ∙ ten));
          some_trip = λ _ _ _. inr refl;
        },
      )

  -- ---- the outputs

  settings-apart : (slot : Slot) → IsWrittenFile slot → is_slot slot Settings ≡ false
  settings-apart Settings e = cc
  settings-apart Capture e = cc
  settings-apart Goose e = refl
  settings-apart Log e = refl
  settings-apart Config e = refl
  settings-apart Data e = refl
  settings-apart Note e = cc
  settings-apart Answer e = cc

  capture-apart : (slot : Slot) → IsWrittenFile slot → is_slot slot Capture ≡ false
  capture-apart Settings e = cc
  capture-apart Capture e = cc
  capture-apart Goose e = refl
  capture-apart Log e = refl
  capture-apart Config e = refl
  capture-apart Data e = refl
  capture-apart Note e = cc
  capture-apart Answer e = cc

  -- what is known behind the capture's header
  pub record Known (a : RoomState) (s : PlainSettings) (feed : Feed) (left : List ℕ) : Type 0 where
    pub accepted : accepted (content_of a.contents job.settings) ≡ Ok s
    pub begun : Begins feed (content_of a.contents job.capture) left
    pub limit : feed.limit ≡ most_capture

  -- the records of the capture that was begun
  all-of : {a : RoomState} {s : PlainSettings} {feed : Feed} {left : List ℕ} → (k : Known a s feed left) → (more : List ℕ) → records (k.begun.prefix ++ more) most_capture ≡ Some (found feed more)
  all-of {a} {s} {feed} k more = ap (λ n. records (k.begun.prefix ++ more) n) (sym k.limit) ∙ k.begun.all more

  run-found : {a : RoomState} {s : PlainSettings} {feed : Feed} {left : List ℕ} → Known a s feed left → run_of (Some asked) a.contents ≡ records_run job s (Some (found feed left))
  run-found {a} {s} {feed} {left} k = run-by a s k.accepted ∙ ap (records_run job s) (ap (λ xs. records xs most_capture) k.begun.is ∙ all-of k left)

  -- the capture is open, and some outputs may be
  pub record Begun (a h : RoomState) (s : PlainSettings) (feed : Feed) : Type 0 where
    pub unused : IsUnused a
    pub stage : Staged (Some asked) a h
    pub settings : h.settings.name ≡ Some job.settings
    pub capture : h.capture.name ≡ Some job.capture
    pub ready : IsTrue h.capture.is_ready
    pub empty : IsTrue a.tells → IsWritten [] h
    pub known : IsTrue a.tells → Known a s feed h.capture.bytes

  pub begun : {a b d : RoomState} {feed : Feed} {r : SettingsRead} (s : PlainSettings) → Read asked a b → Accepts a s → Laws d → ReadsSettings job.settings a b (Ok r) → OpensCapture job.capture b d feed (Ok tt) → Begun a d s feed
  begun {a} {b} {d} {feed} s read by law reads capture = record {
    unused = read.unused;
    stage = stage-capture read capture;
    settings = ap (λ (x : SlotState). x.name) (kept-at Settings capture.only refl) ∙ reads.named;
    capture = capture.named;
    ready = capture.ready;
    empty = λ told. nothing law (unopened-outputs read capture);
    known = λ told. record {
      accepted = by told;
      begun = subst (λ cs. Begins feed (content_of cs job.capture) d.capture.bytes) read.stage.contents (capture.begun (read.stage.tells ∙ told));
      limit = capture.live.1;
    };
  }

  -- an output that could not be opened ends it, or a write to one
  fails-end : {a h : RoomState} {s : PlainSettings} {feed : Feed} (left : List ℕ) (slot : Slot) → IsUnused a → Staged (Some asked) a h → IsWrittenFile slot → Rose (at a slot).faults (at h slot).faults →
      (IsTrue a.tells → IsTrue (uses (Some asked) slot)) → (IsTrue a.tells → Known a s feed left) → (IsTrue a.tells → Reaches (Some asked) slot (all_writes job s (found feed left).bodies) h) → Leaves (Some asked) a h (fault slot)
  fails-end {a} {h} {s} {feed} left slot unused stage file rose used known reached = leaves asked (fault slot) stage (
    (λ e. cc),
    record {
      other = λ e. streams (subst IsWrittenFile e file);
      rose = rose;
      used = used;
      reached = λ told. subst (λ (r : Run). Reaches (Some asked) slot r.writes h) (sym (run-found (known told))) (reached told);
      answer = λ told. (0, answer-still unused stage told);
      settings = λ e. absurd (streams-settings (subst IsWrittenFile e file));
      capture = λ e. absurd (streams-capture (subst IsWrittenFile e file));
      accepted = λ told two. absurd (not-refused job s (Some (found feed left)) (sym (ap (λ (r : Run). status_of r.ending) (run-found (known told))) ∙ two));
      header = λ told none. absurd (not-not_capture (found feed left).stop (length (found feed left).bodies) (sym (ap (λ (r : Run). r.ending) (run-found (known told))) ∙ none));
      named_line = λ told ten. absurd (not-no_line job s (Some (found feed left)) (sym (ap (λ (r : Run). r.ending) (run-found (known told))) ∙ ten));
      some_trip = λ _ recording _. absurd (is.other recording);
    },
  )
    where
      streams : IsWrittenFile Note → ⊥
      streams e = cc

      streams-settings : IsWrittenFile Settings → ⊥
      streams-settings e = cc

      streams-capture : IsWrittenFile Capture → ⊥
      streams-capture e = cc

  stage-output : {a d e : RoomState} {s : PlainSettings} {feed : Feed} {r : Result (Unit {0}) Failed} (slot : Slot) (name : List ℕ) → IsWrittenFile slot → word asked slot ≡ Some name → Begun a d s feed → OpensOutput slot name d e r → Staged (Some asked) a e
  stage-output slot name file is before opens = staged-at (Some asked) slot name (written-file slot file).0 is before.stage opens.only opens.named opens.later

  empty-output : {a d e : RoomState} {s : PlainSettings} {feed : Feed} {r : Result (Unit {0}) Failed} (slot : Slot) (name : List ℕ) → Begun a d s feed → OpensOutput slot name d e r → IsTrue a.tells → IsWritten [] e
  empty-output {a} {d} {e} slot name before opens told = record {
    each = λ x file. elim (cases_Bool (is_slot slot x)) [
      | inl same ↦ subst (λ y. (at e y).bytes ≡ []) (same-slot slot x same) (opens.empty (before.stage.tells ∙ told))
      | inr other ↦ ap (λ (y : SlotState). y.bytes) (kept-at x opens.only other) ∙ (before.empty told).each x file
    ];
  }

  pub output-end : {a d e : RoomState} {s : PlainSettings} {feed : Feed} (slot : Slot) (name : List ℕ) (failed : Failed) → IsWrittenFile slot → word asked slot ≡ Some name → Begun a d s feed → OpensOutput slot name d e (Err failed) → Leaves (Some asked) a e (fault failed.slot)
  output-end {a} {d} {e} {s} {feed} slot name failed file is before opens =
      subst (λ x. Leaves (Some asked) a e (fault x)) (sym opens.end.same)
      (fails-end d.capture.bytes slot before.unused (stage-output slot name file is before opens) file
      (let h = before.stage.later slot in let r : Rose (at d slot).faults (at e slot).faults = opens.end.rose in omega arith)
      (λ told. used-word (Some asked) slot name is)
      before.known
      (λ told. unbegun (Some asked) slot (all_writes job s (found feed d.capture.bytes).bodies) (empty-output slot name before opens told)
      (λ _ ready. clash (sym (ready slot file (ap is_some is)) ∙ opens.end.shut))))

  pub output-open : {a d e : RoomState} {s : PlainSettings} {feed : Feed} (slot : Slot) (name : List ℕ) → IsWrittenFile slot → word asked slot ≡ Some name → Begun a d s feed → OpensOutput slot name d e (Ok tt) → Begun a e s feed
  output-open {a} {d} {e} {s} {feed} slot name file is before opens = record {
    unused = before.unused;
    stage = stage-output slot name file is before opens;
    settings = ap (λ (x : SlotState). x.name) (kept-at Settings opens.only (settings-apart slot file)) ∙ before.settings;
    capture = ap (λ (x : SlotState). x.name) (kept-at Capture opens.only (capture-apart slot file)) ∙ before.capture;
    ready = ap (λ (x : SlotState). x.is_ready) (kept-at Capture opens.only (capture-apart slot file)) ∙ before.ready;
    empty = empty-output slot name before opens;
    known = λ told. subst (λ (x : SlotState). Known a s feed x.bytes) (sym (kept-at Capture opens.only (capture-apart slot file))) (before.known told);
  }

  -- all files are open
  pub record Opened (a f : RoomState) (s : PlainSettings) (feed : Feed) : Type 0 where
    pub begun : Begun a f s feed
    pub start : IsStarted (Some asked) f

  -- ---- what is written

  -- what was appended to empty outputs
  written-all : {e h : RoomState} (ws : List Item) → IsWritten [] e → Appends ws e h → IsWritten ws h
  written-all {e} {h} ws empty all = record { each = λ slot file. all.each slot file ∙ ap (λ xs. xs ++ written slot ws) (empty.each slot file) }

  reaches-by : {f h : RoomState} (slot : Slot) (ws : List Item) → IsWritten [] f → StopsAt slot ws f h → Reaches (Some asked) slot ws h
  reaches-by slot ws empty stop = record { whole = stop.whole; part = stop.part; written = written-all (front stop.whole stop.part ws) empty stop.appended; next = λ _ _. stop.next }

  -- the output whose write comes next is one that the command uses
  next-used : {f h : RoomState} {slot : Slot} (s : PlainSettings) (bodies : List (List ℕ)) → StopsAt slot (all_writes job s bodies) f h → IsTrue (uses (Some asked) slot)
  next-used {f} {h} {slot} s bodies stop = in-after (uses (Some asked)) stop.whole (all_writes job s bodies) slot (is.places s bodies) stop.next

  -- what comes before the records could not be written
  pub header-end : {a f : RoomState} {s : PlainSettings} {feed : Feed} (g : RoomState) (failed : Failed) → Opened a f s feed → Makes job.head f g (Err failed) → Leaves (Some asked) a g (fault failed.slot)
  header-end {a} {f} {s} {feed} g failed opened made =
      let fails : FailsIn failed.slot (all_writes job s (found feed f.capture.bytes).bodies) f g =
      FailsIn-lift failed.slot [] job.head (out (job.tells s) (found feed f.capture.bytes).bodies) g (OnlyUses-refl is_written f) (λ told. Appends-nothing f) made.end in
      fails-end f.capture.bytes failed.slot opened.begun.unused (staged-uses (Some asked) refl refl opened.begun.stage made.only) fails.output
      (let h = opened.begun.stage.later failed.slot in let r : Rose (at f failed.slot).faults (at g failed.slot).faults = fails.rose in omega arith)
      (λ told. next-used s (found feed f.capture.bytes).bodies (fails.stops (opened.begun.stage.tells ∙ told)))
      opened.begun.known
      (λ told. reaches-by failed.slot (all_writes job s (found feed f.capture.bytes).bodies) (opened.begun.empty told) (fails.stops (opened.begun.stage.tells ∙ told)))

  started-uses : {used : Slot → Bool} {f h : RoomState} → IsStarted (Some asked) f → OnlyUses used f h → IsStarted (Some asked) h
  started-uses start only = record {
    named = λ slot file. (only.each slot).name ∙ start.named slot file;
    ready = λ slot file some. (only.each slot).ready ∙ start.ready slot file some;
  }

  module _ {a f g : RoomState} {s : PlainSettings} {feed : Feed} (opened : Opened a f s feed) (made : Makes job.head f g (Ok tt)) where
    stage_g : Staged (Some asked) a g
    stage_g = staged-uses (Some asked) refl refl opened.begun.stage made.only

    told_f : IsTrue a.tells → IsTrue f.tells
    told_f told = opened.begun.stage.tells ∙ told

    told_g : IsTrue a.tells → IsTrue g.tells
    told_g told = stage_g.tells ∙ told

    left : g.capture.bytes ≡ f.capture.bytes
    left = ap (λ (x : SlotState). x.bytes) (made.only.others Capture refl)

    known_g : IsTrue a.tells → Known a s feed g.capture.bytes
    known_g told = subst (λ xs. Known a s feed xs) (sym left) (opened.begun.known told)

    -- what comes before the records, and then these writes
    header-then : (h : RoomState) (bodies : List (List ℕ)) → IsTrue a.tells → Appends (out (job.tells s) bodies) g h → IsWritten (all_writes job s bodies) h
    header-then h bodies told all = written-all (all_writes job s bodies) (opened.begun.empty told) (Appends-more (made.all (told_f told)) all)

    -- a write of a record failed
    write-end : (h : RoomState) (slot : Slot) → Staged (Some asked) a h → FailsIn slot (out (job.tells s) (found feed g.capture.bytes).bodies) g h → Leaves (Some asked) a h (fault slot)
    write-end h slot stage fails =
        let whole : FailsIn slot (all_writes job s (found feed g.capture.bytes).bodies) f h =
        subst (λ (ws : List Item). FailsIn slot (job.head ++ ws) f h) (append-nil (out (job.tells s) (found feed g.capture.bytes).bodies))
        (FailsIn-lift slot job.head (out (job.tells s) (found feed g.capture.bytes).bodies) [] h made.only made.all fails) in
        fails-end g.capture.bytes slot opened.begun.unused stage fails.output
        (let x = stage_g.later slot in let r : Rose (at g slot).faults (at h slot).faults = fails.rose in omega arith)
        (λ told. next-used s (found feed g.capture.bytes).bodies (whole.stops (told_f told)))
        known_g
        (λ told. reaches-by slot (all_writes job s (found feed g.capture.bytes).bodies) (opened.begun.empty told) (whole.stops (told_f told)))

    -- a read of the capture failed
    read-end : (h : RoomState) (slot : Slot) → Staged (Some asked) a h → IsStarted (Some asked) h → IsTrue h.capture.is_ready → BreaksOff slot (job.tells s) (found feed) g.capture.bytes g h → Leaves (Some asked) a h (fault slot)
    read-end h slot stage start ready breaks = subst (λ x. Leaves (Some asked) a h (fault x)) (sym breaks.capture) (leaves asked (fault Capture) stage (
      (λ e. cc),
      record {
        other = λ e. cc;
        rose = (let x = stage_g.later Capture in let r : Rose g.capture.faults h.capture.faults = breaks.rose in omega arith);
        used = λ told. used-word (Some asked) Capture job.capture is.capture_word;
        reached = λ told.
            let k = known_g told in
            let b = breaks.at (told_g told) in
            let made_items : List Item = all_writes job s (found feed b.front).bodies in
            subst (λ (r : Run). Reaches (Some asked) Capture r.writes h) (sym (run-found k))
            (subst (λ (items : List Item). Reaches (Some asked) Capture items h) (sym (ap (λ items. job.head ++ items) b.more ∙ sym (append_assoc job.head (out (job.tells s) (found feed b.front).bodies) b.rest))) (record {
              whole = length made_items;
              part = 0;
              written = record { each = λ x file. (header-then h (found feed b.front).bodies told b.written).each x file ∙ sym (front-all x made_items b.rest) };
              next = λ file _. cc;
            }));
        answer = λ told. (0, answer-still opened.begun.unused stage told);
        settings = λ e. cc;
        capture = λ _. is.faults a h (inr (record {
          started = start;
          ready = ready;
          reached = λ told.
              let k = known_g told in
              let b = breaks.at (told_g told) in
              let len = length-append k.begun.prefix b.front in
              record {
                settings = s;
                accepted = k.accepted;
                taken = k.begun.prefix ++ b.front;
                long = (let l = k.begun.long in omega arith);
                is = k.begun.is ∙ (ap (λ xs. k.begun.prefix ++ xs) b.is ∙ sym (append_assoc k.begun.prefix b.front h.capture.bytes));
                found = found feed b.front;
                records = all-of k b.front;
                written = header-then h (found feed b.front).bodies told b.written;
              };
        }));
        accepted = λ told two. absurd (not-refused job s (Some (found feed g.capture.bytes)) (sym (ap (λ (r : Run). status_of r.ending) (run-found (known_g told))) ∙ two));
        header = λ _ _. inr refl;
        named_line = λ told ten. absurd (not-no_line job s (Some (found feed g.capture.bytes)) (sym (ap (λ (r : Run). r.ending) (run-found (known_g told))) ∙ ten));
        some_trip = λ _ _ _. inr refl;
      },
    ))

    -- the capture stopped
    stop-end : (h : RoomState) (stop : Stopped) → Staged (Some asked) a h → IsStarted (Some asked) h → (IsTrue g.tells → StopsAsFound (job.tells s) (found feed g.capture.bytes) g h stop) → Leaves (Some asked) a h (ending_of_stop stop)
    stop-end h stop stage start stops_as = go stop stops_as
      where
        gives : (x : Stopped) → (IsTrue g.tells → StopsAsFound (job.tells s) (found feed g.capture.bytes) g h x) → IsTrue a.tells → Gives (run_of (Some asked) a.contents) (ending_of_stop x) h
        gives x says told =
            let k = known_g told in
            let w = says (told_g told) in
            subst (λ (r : Run). Gives r (ending_of_stop x) h) (sym (run-found k))
            (record { ends_as = sym w.ending; files = header-then h (found feed g.capture.bytes).bodies told w.written; answer = answer-still opened.begun.unused stage told })

        go : (x : Stopped) → (IsTrue g.tells → StopsAsFound (job.tells s) (found feed g.capture.bytes) g h x) → Leaves (Some asked) a h (ending_of_stop x)
        go stopped.Whole says = leaves asked done stage (record { usage = (λ e. cc, λ e. cc); gives = gives stopped.Whole says; started = λ _. opened-by asked is.other (run_of (Some asked) a.contents) a 0 start; unstarted = λ no. absurd (no refl); read = read-otherwise (Some asked) 0 (λ e. cc) (λ e. cc) })
        go (stopped.Cut n) says = leaves asked (cut n) stage (record { usage = (λ e. cc, λ e. cc); gives = gives (stopped.Cut n) says; started = λ _. opened-by asked is.other (run_of (Some asked) a.contents) a 4 start; unstarted = λ no. absurd (no refl); read = read-otherwise (Some asked) 4 (λ e. cc) (λ e. cc) })
        go (stopped.Damaged n size) says = leaves asked (damaged n size) stage (record { usage = (λ e. cc, λ e. cc); gives = gives (stopped.Damaged n size) says; started = λ _. opened-by asked is.other (run_of (Some asked) a.contents) a 5 start; unstarted = λ no. absurd (no refl); read = read-otherwise (Some asked) 5 (λ e. cc) (λ e. cc) })
        go (stopped.TooLong n) says = leaves asked (too_long n) stage (record { usage = (λ e. cc, λ e. cc); gives = gives (stopped.TooLong n) says; started = λ _. opened-by asked is.other (run_of (Some asked) a.contents) a 8 start; unstarted = λ no. absurd (no refl); read = read-otherwise (Some asked) 8 (λ e. cc) (λ e. cc) })

    pub stops-end : (h : RoomState) (stop : Stopped) → Runs (job.tells s) (found feed) g h (Ok stop) → Leaves (Some asked) a h (ending_of_stop stop)
    stops-end h stop runs = stop-end h stop (staged-uses (Some asked) refl refl stage_g runs.only) (started-uses (started-uses opened.start made.only) runs.only) runs.stops

    pub fault-end : (h : RoomState) (failed : Failed) → Runs (job.tells s) (found feed) g h (Err failed) → Leaves (Some asked) a h (fault failed.slot)
    fault-end h failed runs =
        let stage = staged-uses (Some asked) refl refl stage_g runs.only in
        let start = started-uses (started-uses opened.start made.only) runs.only in
        elim runs.end [
          | inl breaks ↦ read-end h failed.slot stage start ((runs.only.each Capture).ready ∙ ((made.only.each Capture).ready ∙ opened.begun.ready)) breaks
          | inr fails ↦ write-end h failed.slot stage fails
        ]

-- ---- all files are open

pub replay-open : (names : Names) {a d e f : RoomState} {s : PlainSettings} {feed : Feed} → IsUnstarted d → Begun (replay names) (replay_job names) (replay-is names) a d s feed →
    OpensOutput Goose names.goose d e (Ok tt) → OpensOutput Log names.log e f (Ok tt) → Opened (replay names) (replay_job names) (replay-is names) a f s feed
replay-open names {a} {d} {e} {f} {s} {feed} unstarted before goose log =
    let first = output-open (replay names) (replay_job names) (replay-is names) Goose names.goose refl refl before goose in
    let both = output-open (replay names) (replay_job names) (replay-is names) Log names.log refl refl first log in
    record { begun = both; start = record { named = named both; ready = ready } }
  where
    named : Begun (replay names) (replay_job names) (replay-is names) a f s feed → (slot : Slot) → IsFile slot → (at f slot).name ≡ word (replay names) slot
    named both Settings file = both.settings
    named both Capture file = both.capture
    named both Goose file = ap (λ (x : SlotState). x.name) (kept-at Goose log.only refl) ∙ goose.named
    named both Log file = log.named
    named both Config file = ap (λ (x : SlotState). x.name) (kept-at Config log.only refl ∙ kept-at Config goose.only refl) ∙ unstarted.each Config refl
    named both Data file = ap (λ (x : SlotState). x.name) (kept-at Data log.only refl ∙ kept-at Data goose.only refl) ∙ unstarted.each Data refl
    named both Note file = cc
    named both Answer file = cc

    ready : AreReady (Some (replay names)) f
    ready Settings file some = cc
    ready Capture file some = cc
    ready Goose file some = ap (λ (x : SlotState). x.is_ready) (kept-at Goose log.only refl) ∙ goose.ready
    ready Log file some = log.ready
    ready Config file some = cc
    ready Data file some = cc
    ready Note file some = cc
    ready Answer file some = cc

pub study-open : (x : Study) (names : StudyNames) {a d e : RoomState} {s : PlainSettings} {feed : Feed} → IsUnstarted d → Begun (study x names) (study_job x names) (study-is x names) a d s feed →
    OpensOutput Log names.log d e (Ok tt) → Opened (study x names) (study_job x names) (study-is x names) a e s feed
study-open x names {a} {d} {e} {s} {feed} unstarted before log =
    let open_log = output-open (study x names) (study_job x names) (study-is x names) Log names.log refl refl before log in
    record { begun = open_log; start = record { named = named open_log; ready = ready } }
  where
    named : Begun (study x names) (study_job x names) (study-is x names) a e s feed → (slot : Slot) → IsFile slot → (at e slot).name ≡ word (study x names) slot
    named both Settings file = both.settings
    named both Capture file = both.capture
    named both Goose file = ap (λ (y : SlotState). y.name) (kept-at Goose log.only refl) ∙ unstarted.each Goose refl
    named both Log file = log.named
    named both Config file = ap (λ (y : SlotState). y.name) (kept-at Config log.only refl) ∙ unstarted.each Config refl
    named both Data file = ap (λ (y : SlotState). y.name) (kept-at Data log.only refl) ∙ unstarted.each Data refl
    named both Note file = cc
    named both Answer file = cc

    ready : AreReady (Some (study x names)) e
    ready Settings file some = cc
    ready Capture file some = cc
    ready Goose file some = cc
    ready Log file some = log.ready
    ready Config file some = cc
    ready Data file some = cc
    ready Note file some = cc
    ready Answer file some = cc
