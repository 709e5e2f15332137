-- `check`, and how it counts zones.
use Rattle.std.proofs.Common.{◌≡◌, ◌∙◌, inl, inr, false, ℕ, ◌+◌, ◌<◌, ◌≤◌, IsTrue, List, [], ◌∷◌, ◌++◌, get_or, add_assoc, add-zero, length, take, refl, sym, ap, subst, arith}
use Rattle.std.specs.Prelude.{Some, Ok, Err}
use Rattle.std.proofs.lemmas.List.{take_more, map-append}
use Rattle.std.proofs.lemmas.Bool.{cases_Bool}
use Rattle.room_io.specs.Room.{RoomState, SlotState, at, Rose, OnlyAt, IsFile}
use Rattle.room_io.specs.declared.room.Slot.{Slot}
use Rattle.room_io.specs.declared.room.Slot.TheVariants.{Settings, Capture, Goose, Log, Config, Data, Note, Answer}
use Rattle.relay_settings.specs.Settings.{PlainLine, plain_line, plain_lines}
use Rattle.relay_settings.specs.declared.types.LineSettings.{LineSettings}
use Rattle.relay_tool.specs.Endings.{Ending, status_of, done, not_capture, no_line, fault}
use Rattle.relay_tool.specs.Words.{Asked, check, word}
use Rattle.relay_tool.specs.Run.{Run, run_of, zones_in}
use Rattle.relay_tool.specs.Files.{IsWritten, is_slot, IsNamedBy, AreReady, IsStarted}
use Rattle.relay_tool.specs.Answers.{IsRecording, uses}
use Rattle.relay_tool.specs.Making.{Puts}
use Rattle.relay_tool.specs.Leaving.{Gives, EndsAs, Leaves}
use Rattle.relay_tool.specs.declared.put.Failed.{Failed}
use Rattle.relay_tool.proofs.Slots.{kept-at, same-slot}
use Rattle.relay_tool.proofs.Reading.{read-otherwise}
use Rattle.relay_tool.proofs.Staging.{unbegun, written-file}
use Rattle.relay_tool.proofs.Replaying.{Read, opened-by}
use Rattle.room_io.proofs.Rooms.{tells-OnlyAt}

-- ---- an answer to standard output

file-apart : (slot : Slot) → IsFile slot → is_slot Answer slot ≡ false
file-apart Settings e = refl
file-apart Capture e = refl
file-apart Goose e = refl
file-apart Log e = refl
file-apart Config e = refl
file-apart Data e = refl
file-apart Note e = cc
file-apart Answer e = cc

-- a run that writes this to standard output
abbrev pub answered : List ℕ → Run
answered text = record { ending = done; answer = text; writes = [] }

module _ (asked : Asked) (other : IsRecording (Some asked) → ⊥) {a b : RoomState} (d : RoomState) (text : List ℕ) (read : Read asked a b) (is : IsTrue a.tells → run_of (Some asked) a.contents ≡ answered text) where
  before : IsTrue a.tells → b.answer.bytes ≡ []
  before told = ap (λ (s : SlotState). s.bytes) read.stage.answer ∙ read.unused.answer told

  still : OnlyAt Answer b d → (slot : Slot) → IsFile slot → at d slot ≡ at b slot
  still only slot file = kept-at slot only (file-apart slot file)

  empty-still : OnlyAt Answer b d → IsWritten [] d
  empty-still only = record { each = λ slot file. ap (λ (x : SlotState). x.bytes) (still only slot (written-file slot file).0) ∙ read.empty.each slot file }

  ends : OnlyAt Answer b d → b.answer.faults ≤ d.answer.faults → (ending : Ending) → EndsAs (Some asked) a d ending → Leaves (Some asked) a d ending
  ends only later ending end = record {
    tells = tells-OnlyAt only ∙ read.stage.tells;
    note = kept-at Note only refl ∙ read.stage.note;
    named = λ slot file. subst (λ (x : SlotState). IsNamedBy (word asked slot) x.name) (sym (still only slot file)) (read.stage.named slot file);
    later = λ slot. elim (cases_Bool (is_slot Answer slot)) [
      | inl same ↦ subst (λ x. (at a x).faults ≤ (at d x).faults) (same-slot Answer slot same) (let h = read.stage.later Answer in omega arith)
      | inr other ↦ (let h = read.stage.later slot in let k = ap (λ (x : SlotState). x.faults) (kept-at slot only other) in omega arith)
    ];
    end = end;
  }

  pub answer-done : IsStarted (Some asked) b → Puts Answer text b d (Ok tt) → Leaves (Some asked) a d done
  answer-done start puts = ends puts.only puts.later done (record {
    usage = (λ e. cc, λ e. cc);
    gives = λ told.
        subst (λ (r : Run). Gives r done d) (sym (is told))
        (record { ends_as = refl; files = empty-still puts.only; answer = puts.whole (read.stage.tells ∙ told) ∙ ap (λ xs. xs ++ text) (before told) });
    started = λ _. opened-by asked other (run_of (Some asked) a.contents) a 0 (record {
      named = λ slot file. ap (λ (x : SlotState). x.name) (still puts.only slot file) ∙ start.named slot file;
      ready = λ slot file some. ap (λ (x : SlotState). x.is_ready) (still puts.only slot (written-file slot file).0) ∙ start.ready slot file some;
    });
    unstarted = λ no. absurd (no refl);
    read = read-otherwise (Some asked) 0 (λ e. cc) (λ e. cc);
  })

  pub answer-fault : (failed : Failed) → IsTrue (uses (Some asked) Answer) → Puts Answer text b d (Err failed) → Leaves (Some asked) a d (fault failed.slot)
  answer-fault failed used puts = subst (λ x. Leaves (Some asked) a d (fault x)) (sym puts.end.0) (ends puts.only puts.later (fault Answer) (
    (λ e. cc),
    record {
      other = λ e. cc;
      rose = (let h = read.stage.later Answer in let r : Rose b.answer.faults d.answer.faults = puts.end.1 in omega arith);
      used = λ told. used;
      reached = λ told. unbegun (Some asked) Answer (run_of (Some asked) a.contents).writes (empty-still puts.only) (λ e. cc);
      answer = λ told.
          let p = puts.part (read.stage.tells ∙ told) in
          (p.0, p.2 ∙ ap (λ xs. xs ++ take p.0 text) (before told) ∙ sym (ap (λ (r : Run). take p.0 r.answer) (is told)));
      settings = λ e. cc;
      capture = λ e. cc;
      accepted = λ told two. absurd (zero-two (sym (ap (λ (r : Run). status_of r.ending) (is told)) ∙ two));
      header = λ told three. absurd (done-header (sym (ap (λ (r : Run). r.ending) (is told)) ∙ three));
      named_line = λ told ten. absurd (done-line (sym (ap (λ (r : Run). r.ending) (is told)) ∙ ten));
      some_trip = λ _ recording _. absurd (other recording);
    },
  ))
    where
      zero-two : status_of done ≡ 2 → ⊥
      zero-two e = cc

      done-header : done ≡ not_capture → ⊥
      done-header e = cc

      done-line : done ≡ no_line → ⊥
      done-line e = cc

-- ---- `check`

-- its one file is open
pub check-started : (name : List ℕ) {a b : RoomState} → Read (check name) a b → b.settings.name ≡ Some name → IsStarted (Some (check name)) b
check-started name {a} {b} read named = record { named = names; ready = ready }
  where
    names : (slot : Slot) → IsFile slot → (at b slot).name ≡ word (check name) slot
    names Settings file = named
    names Capture file = read.alone.each Capture refl (λ e. cc)
    names Goose file = read.alone.each Goose refl (λ e. cc)
    names Log file = read.alone.each Log refl (λ e. cc)
    names Config file = read.alone.each Config refl (λ e. cc)
    names Data file = read.alone.each Data refl (λ e. cc)
    names Note file = cc
    names Answer file = cc

    ready : AreReady (Some (check name)) b
    ready Settings file some = cc
    ready Capture file some = cc
    ready Goose file some = cc
    ready Log file some = cc
    ready Config file some = cc
    ready Data file some = cc
    ready Note file some = cc
    ready Answer file some = cc

zones-append : (xs ys : List PlainLine) → zones_in (xs ++ ys) ≡ zones_in xs + zones_in ys
zones-append [] ys = omega arith
zones-append (x ∷ xs) ys = ap (λ n. length x.zones + n) (zones-append xs ys) ∙ sym (add_assoc (length x.zones) (zones_in xs) (zones_in ys))

-- one line further
pub zones-next : (lines : List LineSettings) (i : ℕ) (d : LineSettings) → i < length lines → zones_in (plain_lines (take (i + 1) lines)) ≡ zones_in (plain_lines (take i lines)) + length (get_or lines i d).zones.items
zones-next lines i d h =
    ap (λ ls. zones_in (plain_lines ls)) (take_more lines i d h)
    ∙ (ap zones_in (map-append plain_line (take i lines) (get_or lines i d ∷ [])) ∙ (zones-append (plain_lines (take i lines)) (plain_line (get_or lines i d) ∷ []) ∙ ap (λ n. zones_in (plain_lines (take i lines)) + n) (add-zero (length (get_or lines i d).zones.items))))
