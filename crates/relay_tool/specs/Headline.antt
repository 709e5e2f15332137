-- The headline: for every accepted settings file and every capture, the event log and GOOSE file that `replay` writes are exactly
-- those of the scalar definition, which forms each phasor anew over the last whole cycle of taken samples; each line's part is what
-- its own sample sets alone would give; a malformed frame adds its one log line and changes no line's part.
use Rattle.std.specs.Prelude.{◌≡◌, ◌≢◌, ℕ, IsTrue, List, length, Some, Ok, ◌++◌}
use Rattle.room_io.specs.Room.{RoomState, Rose}
use Rattle.room_io.specs.declared.room.Slot.TheVariants.{Goose, Log}
use Rattle.capture_feed.specs.Records.{Records}
use Rattle.capture_feed.specs.Captures.{records}
use Rattle.capture_feed.specs.Written.{header_bytes}
use Rattle.relay_settings.specs.Settings.{PlainSettings}
use Rattle.relay_tool.specs.Endings.{status_of}
use Rattle.relay_tool.specs.Words.{Names, replay, form}
use Rattle.settings_read.specs.Accepted.{accepted}
use Rattle.relay_tool.specs.Output.{heard_items, out}
use Rattle.relay_tool.specs.LineParts.{LinesAreApart, MalformedAddsItsLine}
use Rattle.relay_tool.specs.Run.{content_of, ending_at, most_capture}
use Rattle.relay_tool.specs.Files.{written}

-- the settings file is accepted, and the capture has a header and these records
pub record IsReplayOf (words : List (List ℕ)) (settings : PlainSettings) (found : Records) (old : RoomState) : Type 0 where
  pub names : Names
  pub asked : form words ≡ Some (replay names)
  pub accepted : accepted (content_of old.contents names.settings) ≡ Ok settings
  pub capture : records (content_of old.contents names.capture) most_capture ≡ Some found

pub record IsScalarOutput (settings : PlainSettings) (found : Records) (new : RoomState) (status : ℕ) : Type 0 where
  pub ended : status ≡ status_of (ending_at found.stop (length found.bodies))
  -- exactly the scalar definition's, byte for byte
  pub log : new.log.bytes ≡ written Log (out (heard_items settings) found.bodies)
  pub goose : new.goose.bytes ≡ header_bytes ++ written Goose (out (heard_items settings) found.bodies)
  pub apart : LinesAreApart settings found.bodies
  pub malformed : MalformedAddsItsLine (heard_items settings)

-- no call of the four files failed
pub record AreQuiet (old new : RoomState) : Type 0 where
  pub settings : Rose old.settings.faults new.settings.faults → ⊥
  pub capture : Rose old.capture.faults new.capture.faults → ⊥
  pub goose : Rose old.goose.faults new.goose.faults → ⊥
  pub log : Rose old.log.faults new.log.faults → ⊥

-- in a room that tells content, where no call of the four files failed and memory was enough
abbrev pub IsHeadline : List (List ℕ) → RoomState → RoomState → ℕ → Type 0
IsHeadline words old new status = (settings : PlainSettings) (found : Records) →
    IsReplayOf words settings found old → IsTrue old.tells → AreQuiet old new → status ≢ 7 → IsScalarOutput settings found new status
