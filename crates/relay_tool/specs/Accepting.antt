-- What the reading of the settings leaves.
use Rattle.std.specs.Prelude.{◌≡◌, ℕ, ◌≤◌, IsTrue, List, drop, Some, Result, Ok, Err, IfOk, IfErr}
use Rattle.room_io.specs.Room.{RoomState, Rose, OnlyAt}
use Rattle.room_io.specs.declared.room.Slot.TheVariants.{Settings}
use Rattle.relay_settings.specs.Settings.{plain_settings}
use Rattle.relay_settings.specs.Ranges.{InRange}
use Rattle.relay_settings.specs.declared.types.Settings.{Settings as SettingsRead}
use Rattle.settings_read.specs.Walk.{Refusal, refused as refusal}
use Rattle.settings_read.specs.Accepted.{accepted}
use Rattle.settings_read.specs.declared.error.SettingsError.{SettingsError}
use Rattle.settings_read.specs.declared.error.SettingsError.TheVariants as errors
use Rattle.relay_tool.specs.Endings.{Ending, refused, fault, no_memory}
use Rattle.relay_tool.specs.Run.{content_of, most_settings}
use Rattle.relay_tool.specs.declared.settings.SettingsStop.{SettingsStop}
use Rattle.relay_tool.specs.declared.settings.SettingsStop.TheVariants.{Fault, Refused, NoMemory}

abbrev pub stop_of_error : SettingsError → SettingsStop
stop_of_error errors.NoMemory = NoMemory
stop_of_error (errors.Refused number key) = Refused number key

abbrev pub settings_ending : SettingsStop → Ending
settings_ending Fault = fault Settings
settings_ending (Refused number key) = refused number key.bytes
settings_ending NoMemory = no_memory

-- the settings are refused, and what was read of them is gone
pub record Refuses (name : List ℕ) (old new : RoomState) (refusal : Refusal) : Type 0 where
  pub accepted : accepted (content_of old.contents name) ≡ Err refusal
  pub left : new.settings.bytes ≡ drop most_settings (content_of old.contents name)

-- why there are no settings
abbrev pub SettingsEnd : List ℕ → RoomState → RoomState → SettingsStop → Type 0
SettingsEnd name old new Fault = Rose old.settings.faults new.settings.faults
SettingsEnd name old new (Refused number key) = IsTrue old.tells → Refuses name old new (refusal number key.bytes)
SettingsEnd name old new NoMemory = Unit {0}

-- the settings were opened and read
pub record ReadsSettings (name : List ℕ) (old new : RoomState) (result : Result SettingsRead SettingsStop) : Type 0 where
  pub only : OnlyAt Settings old new
  pub named : new.settings.name ≡ Some name
  pub later : old.settings.faults ≤ new.settings.faults
  pub accepted : IfOk result (λ s. InRange s × (IsTrue old.tells → accepted (content_of old.contents name) ≡ Ok (plain_settings s)))
  pub end : IfErr result (λ stop. SettingsEnd name old new stop)
