-- The headline, from what a run leaves.
use Rattle.std.proofs.Common.{◌≡◌, ◌≢◌, ℕ, IsTrue, List, refl, ◌∙◌, ap, subst}
use Rattle.std.specs.Prelude.{Option, Some}
use Rattle.room_io.specs.Room.{RoomState, at, Rose}
use Rattle.room_io.specs.declared.room.Slot.{Slot}
use Rattle.room_io.specs.declared.room.Slot.TheVariants.{Settings, Capture, Goose, Log, Config, Data, Note, Answer}
use Rattle.relay_tool.specs.Endings.{status_of}
use Rattle.relay_tool.specs.Words.{Names, Asked, replay, form}
use Rattle.relay_tool.specs.Output.{heard_items}
use Rattle.relay_tool.specs.Run.{Run, run_of, replay_job, job_by, records_run, all_writes, content_of}
use Rattle.relay_tool.specs.Files.{IsWritten}
use Rattle.relay_tool.specs.Answers.{uses, Answers, IsWhole}
use Rattle.relay_tool.specs.Headline.{AreQuiet, IsHeadline}
use Rattle.relay_tool.proofs.Parting.{apart, malformed}

-- `replay` uses no slot but the four and Note
of-four : (names : Names) {old new : RoomState} → AreQuiet old new → (slot : Slot) → IsTrue (uses (Some (replay names)) slot) → Rose (at old slot).faults (at new slot).faults → ⊥
of-four names quiet Settings used rose = quiet.settings rose
of-four names quiet Capture used rose = quiet.capture rose
of-four names quiet Goose used rose = quiet.goose rose
of-four names quiet Log used rose = quiet.log rose
of-four names quiet Config used rose = cc
of-four names quiet Data used rose = cc
of-four names quiet Note used rose = cc
of-four names quiet Answer used rose = cc

pub headline : (words : List (List ℕ)) (old new : RoomState) (status : ℕ) → Answers words old new status → IsHeadline words old new status
headline words old new status answers settings found is told quiet not7 =
    let not6 : status ≢ 6 = λ six.
    let faulted = answers.fault six in
    of-four is.names quiet faulted.slot (subst (λ (asked : Option Asked). IsTrue (uses asked faulted.slot)) is.asked (faulted.fails.used told)) faulted.fails.rose in
    let reached : IsWhole old status = (told, not6, not7) in
    let run : run_of (form words) old.contents ≡ records_run (replay_job is.names) settings (Some found) =
    ap (λ asked. run_of asked old.contents) is.asked ∙ (ap (λ a. job_by (replay_job is.names) a (content_of old.contents is.names.capture)) is.accepted ∙ ap (records_run (replay_job is.names) settings) is.capture) in
    let files : IsWritten (all_writes (replay_job is.names) settings found.bodies) new = subst (λ (r : Run). IsWritten r.writes new) run (answers.files reached) in
    record {
      ended = answers.result reached ∙ ap (λ (r : Run). status_of r.ending) run;
      log = files.each Log refl;
      goose = files.each Goose refl;
      apart = apart (content_of old.contents is.names.settings) settings found.bodies is.accepted;
      malformed = malformed (heard_items settings);
    }
