-- How much of an input was read where that input ended the run.
use Rattle.std.proofs.Common.{◌≡◌, ◌∙◌, ℕ, IsTrue, List, [], drop, sym, ap, subst}
use Rattle.std.specs.Prelude.{Option, Some, unwrap_or}
use Rattle.room_io.specs.Room.{RoomState}
use Rattle.room_io.specs.declared.room.Slot.TheVariants.{Settings, Capture}
use Rattle.capture_feed.specs.Left.{HasNoHeader}
use Rattle.relay_tool.specs.Words.{Asked, word}
use Rattle.relay_tool.specs.Run.{content_of, most_settings}
use Rattle.relay_tool.specs.Answers.{HasRead}

-- a word gives one name
one-name : {o : Option (List ℕ)} {name own : List ℕ} → o ≡ Some name → o ≡ Some own → name ≡ own
one-name is named = ap (λ x. unwrap_or x []) (sym is ∙ named)

pub read-refused : (asked : Asked) (name : List ℕ) {a b : RoomState} → word asked Settings ≡ Some name → (IsTrue a.tells → b.settings.bytes ≡ drop most_settings (content_of a.contents name)) → HasRead (Some asked) a b 2
read-refused asked name {a} {b} is left = record {
  settings = λ told _ own named. subst (λ n. b.settings.bytes ≡ drop most_settings (content_of a.contents n)) (one-name is named) (left told);
  capture = λ _ e. cc;
}

pub read-headerless : (asked : Asked) (name : List ℕ) {a b : RoomState} → word asked Capture ≡ Some name → (IsTrue a.tells → HasNoHeader (content_of a.contents name) b.capture.bytes) → HasRead (Some asked) a b 3
read-headerless asked name {a} {b} is none = record {
  settings = λ _ e. cc;
  capture = λ told _ own named. subst (λ n. HasNoHeader (content_of a.contents n) b.capture.bytes) (one-name is named) (none told);
}

-- another end
pub read-otherwise : (asked : Option Asked) (status : ℕ) {a b : RoomState} → (status ≡ 2 → ⊥) → (status ≡ 3 → ⊥) → HasRead asked a b status
read-otherwise asked status not2 not3 = record { settings = λ _ e. absurd (not2 e); capture = λ _ e. absurd (not3 e) }
