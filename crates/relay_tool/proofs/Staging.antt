-- Files opened one after another, and what stands before anything is written.
use Rattle.std.proofs.Common.{◌≡◌, ◌∙◌, inl, inr, ℕ, ◌≤◌, Bool, true, false, IsTrue, List, [], ◌∷◌, ◌++◌, take, length, refl, sym, ap, subst, arith}
use Rattle.std.specs.Prelude.{Option, None, Some, is_some, ◌&&◌, ◌||◌, if◌then◌else◌}
use Rattle.std.proofs.lemmas.Bool.{cases_Bool}
use Rattle.room_io.specs.Room.{RoomState, SlotState, at, OnlyAt, IsFile, IsOutput, IsUnopened, IsUnused}
use Rattle.room_io.specs.declared.room.Slot.{Slot}
use Rattle.room_io.specs.declared.room.Slot.TheVariants.{Settings, Capture, Goose, Log, Config, Data, Note, Answer}
use Rattle.room_io.proofs.Rooms.{tells-OnlyAt}
use Rattle.relay_tool.specs.Words.{Asked, word_of}
use Rattle.relay_tool.specs.Output.{Item}
use Rattle.relay_tool.specs.Files.{is_slot, IsWrittenFile, written, front, IsWritten, AreReady, Reaches, IsNamedBy, AreNamed, IsUnstarted, HasSettingsAlone}
use Rattle.relay_tool.specs.Answers.{is_answered, uses}
use Rattle.relay_tool.specs.Making.{OnlyUses}
use Rattle.relay_tool.proofs.Slots.{same-slot, kept-at, contents-OnlyAt, clash}

pub written-file : (slot : Slot) → IsWrittenFile slot → IsFile slot × IsOutput slot
written-file Settings e = cc
written-file Capture e = cc
written-file Goose e = (refl, refl)
written-file Log e = (refl, refl)
written-file Config e = (refl, refl)
written-file Data e = (refl, refl)
written-file Note e = cc
written-file Answer e = cc

pub unused-name : {a : RoomState} → IsUnused a → (slot : Slot) → IsFile slot → (at a slot).name ≡ None
unused-name unused Settings e = unused.settings
unused-name unused Capture e = unused.capture
unused-name unused Goose e = unused.goose
unused-name unused Log e = unused.log
unused-name unused Config e = unused.config_file
unused-name unused Data e = unused.data_file
unused-name unused Note e = cc
unused-name unused Answer e = cc

-- a command uses each file that it has a word for
pub used-word : (asked : Option Asked) (slot : Slot) (name : List ℕ) → word_of asked slot ≡ Some name → IsTrue (uses asked slot)
used-word asked slot name is = ap (λ (word : Option (List ℕ)). is_some word || (is_answered asked && is_slot slot Answer)) is

-- a call on a file leaves both streams
file-apart : (slot : Slot) → IsFile slot → (is_slot slot Note ≡ false) × (is_slot slot Answer ≡ false)
file-apart Settings e = (refl, refl)
file-apart Capture e = (refl, refl)
file-apart Goose e = (refl, refl)
file-apart Log e = (refl, refl)
file-apart Config e = (refl, refl)
file-apart Data e = (refl, refl)
file-apart Note e = cc
file-apart Answer e = cc

named-none : (word name : Option (List ℕ)) → name ≡ None → IsNamedBy word name
named-none None name e = e
named-none (Some word) name e = inl e

named-own : (word name : Option (List ℕ)) (own : List ℕ) → word ≡ Some own → name ≡ Some own → IsNamedBy word name
named-own word name own is e = subst (λ w. IsNamedBy w name) (sym is) (inr e)

-- files were opened by their words, and no stream was touched
pub record Staged (asked : Option Asked) (a h : RoomState) : Type 0 where
  pub tells : h.tells ≡ a.tells
  pub contents : h.contents ≡ a.contents
  pub note : h.note ≡ a.note
  pub answer : h.answer ≡ a.answer
  pub named : AreNamed asked h
  pub later : (slot : Slot) → (at a slot).faults ≤ (at h slot).faults

pub staged-none : (asked : Option Asked) {a : RoomState} → IsUnused a → Staged asked a a
staged-none asked {a} unused = record {
  tells = refl;
  contents = refl;
  note = refl;
  answer = refl;
  named = λ slot file. named-none (word_of asked slot) (at a slot).name (unused-name unused slot file);
  later = λ slot. omega arith;
}

-- one file further
pub staged-at : (asked : Option Asked) (slot : Slot) (name : List ℕ) {a b c : RoomState} → IsFile slot → word_of asked slot ≡ Some name → Staged asked a b → OnlyAt slot b c →
    (at c slot).name ≡ Some name → (at b slot).faults ≤ (at c slot).faults → Staged asked a c
staged-at asked slot name {a} {b} {c} file word stage only named later = record {
  tells = tells-OnlyAt only ∙ stage.tells;
  contents = contents-OnlyAt only ∙ stage.contents;
  note = kept-at Note only (file-apart slot file).0 ∙ stage.note;
  answer = kept-at Answer only (file-apart slot file).1 ∙ stage.answer;
  named = λ s f. elim (cases_Bool (is_slot slot s)) [
    | inl same ↦ subst (λ x. IsNamedBy (word_of asked x) (at c x).name) (same-slot slot s same) (named-own (word_of asked slot) (at c slot).name name word named)
    | inr other ↦ subst (λ (x : SlotState). IsNamedBy (word_of asked s) x.name) (sym (kept-at s only other)) (stage.named s f)
  ];
  later = λ s. elim (cases_Bool (is_slot slot s)) [
    | inl same ↦ subst (λ x. (at a x).faults ≤ (at c x).faults) (same-slot slot s same) (let h = stage.later slot in omega arith)
    | inr other ↦ (let h = stage.later s in let k = ap (λ (x : SlotState). x.faults) (kept-at s only other) in omega arith)
  ];
}

-- open files used
pub staged-uses : (asked : Option Asked) {used : Slot → Bool} {a b c : RoomState} → used Note ≡ false → used Answer ≡ false → Staged asked a b → OnlyUses used b c → Staged asked a c
staged-uses asked {used} {a} {b} {c} note answer stage only = record {
  tells = only.tells ∙ stage.tells;
  contents = only.contents ∙ stage.contents;
  note = only.others Note note ∙ stage.note;
  answer = only.others Answer answer ∙ stage.answer;
  named = λ s f. subst (λ (name : Option (List ℕ)). IsNamedBy (word_of asked s) name) (sym (only.each s).name) (stage.named s f);
  later = λ s. let h = stage.later s in let k = (only.each s).later in omega arith;
}

-- ---- nothing was written

-- a file without a name is not ready, and as an output has nothing written
pub record Laws (room : RoomState) : Type 0 where
  pub unopened : (slot : Slot) → IsFile slot → (at room slot).name ≡ None → IsUnopened slot room

pub nothing : {room : RoomState} → Laws room → IsUnstarted room → IsWritten [] room
nothing law none = record { each = λ slot file. let f = written-file slot file in (law.unopened slot f.0 (none.each slot file)).empty f.1 }

pub unready : {room : RoomState} → Laws room → IsUnstarted room → (slot : Slot) → IsWrittenFile slot → IsTrue (at room slot).is_ready → ⊥
unready law none slot file ready = let f = written-file slot file in clash (sym ready ∙ (law.unopened slot f.0 (none.each slot file)).not_ready)

none-of : (b : Bool) (xs : List ℕ) → (if b then take 0 xs else []) ++ [] ≡ []
none-of true xs = refl
none-of false xs = refl

front-none : (slot : Slot) (ws : List Item) → written slot (front 0 0 ws) ≡ []
front-none slot [] = refl
front-none slot (w ∷ ws) = none-of (is_slot w.slot slot) w.bytes

-- the outputs stand before the first of these writes
pub unbegun : (asked : Option Asked) (slot : Slot) (ws : List Item) {room : RoomState} → IsWritten [] room → (IsWrittenFile slot → AreReady asked room → ⊥) → Reaches asked slot ws room
unbegun asked slot ws empty shut = record {
  whole = 0;
  part = 0;
  written = record { each = λ s file. empty.each s file ∙ sym (front-none s ws) };
  next = λ file ready. absurd (shut file ready);
}

-- all of some writes and nothing of others
pub front-all : (slot : Slot) (ws us : List Item) → written slot (front (length ws) 0 (ws ++ us)) ≡ written slot ws
front-all slot [] us = front-none slot us
front-all slot (w ∷ ws) us = ap (λ (xs : List ℕ). (if is_slot w.slot slot then w.bytes else []) ++ xs) (front-all slot ws us)

pub alone-unstarted : {room : RoomState} → HasSettingsAlone room → IsUnstarted room
alone-unstarted {room} alone = record { each = go }
  where
    go : (slot : Slot) → IsWrittenFile slot → (at room slot).name ≡ None
    go Settings file = cc
    go Capture file = cc
    go Goose file = alone.each Goose refl (λ e. cc)
    go Log file = alone.each Log refl (λ e. cc)
    go Config file = alone.each Config refl (λ e. cc)
    go Data file = alone.each Data refl (λ e. cc)
    go Note file = cc
    go Answer file = cc
