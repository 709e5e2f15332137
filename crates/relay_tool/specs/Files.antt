-- What the files of a run hold, and by which names they are open.
use Rattle.std.specs.Prelude.{◌≡◌, ◌≢◌, ◌⊎◌, ℕ, zero, suc, Bool, true, ◌==◌, ◌&&◌, not, if◌then◌else◌, IsTrue, is_some, List, [], ◌∷◌, ◌++◌, take, Option, None, Some}
use Rattle.room_io.specs.Room.{RoomState, at, is_file, is_input, IsFile}
use Rattle.room_io.specs.declared.room.Slot.{Slot}
use Rattle.room_io.specs.declared.room.Slot.TheVariants.{Settings, Capture, Goose, Log, Config, Data, Note, Answer}
use Rattle.relay_tool.specs.Words.{Asked, word_of}
use Rattle.relay_tool.specs.Output.{Item}

-- the place of a slot among all
abbrev pub place_of : Slot → ℕ
place_of Settings = 0
place_of Capture = 1
place_of Goose = 2
place_of Log = 3
place_of Config = 4
place_of Data = 5
place_of Note = 6
place_of Answer = 7

abbrev pub is_slot : Slot → Slot → Bool
is_slot a b = place_of a == place_of b

-- an output file: neither an input nor a standard stream
abbrev pub is_written : Slot → Bool
is_written slot = is_file slot && not (is_input slot)

abbrev pub IsWrittenFile : Slot → Type 0
IsWrittenFile slot = is_written slot ≡ true

-- what these writes put into a slot
abbrev pub written : Slot → List Item → List ℕ
written slot [] = []
written slot (item ∷ items) = (if is_slot item.slot slot then item.bytes else []) ++ written slot items

-- the output files hold these writes, and nothing else
pub record IsWritten (items : List Item) (room : RoomState) : Type 0 where
  pub each : (slot : Slot) → IsWrittenFile slot → (at room slot).bytes ≡ written slot items

-- the first k writes, and the first n bytes of the next one
abbrev pub front : ℕ → ℕ → List Item → List Item
front k n [] = []
front zero n (item ∷ items) = record { slot = item.slot; line = item.line; bytes = take n item.bytes } ∷ []
front (suc k) n (item ∷ items) = item ∷ front k n items

-- the slot of the write that comes after the first k
abbrev pub slot_after : ℕ → List Item → Option Slot
slot_after k [] = None
slot_after zero (item ∷ items) = Some item.slot
slot_after (suc k) (item ∷ items) = slot_after k items

-- the outputs that the command names are ready
abbrev pub AreReady : Option Asked → RoomState → Type 0
AreReady asked room = (slot : Slot) → IsWrittenFile slot → IsTrue (is_some (word_of asked slot)) → IsTrue (at room slot).is_ready

-- The output files hold so many of these writes whole, of the next one a front, and none further. Where a fault of an output
-- came when all were ready, the next write is of that output.
pub record Reaches (asked : Option Asked) (slot : Slot) (items : List Item) (room : RoomState) : Type 0 where
  pub whole : ℕ
  pub part : ℕ
  pub written : IsWritten (front whole part items) room
  pub next : IsWrittenFile slot → AreReady asked room → slot_after whole items ≡ Some slot

-- a slot has its own word as name, or none; and none where the command has no word for it
abbrev pub IsNamedBy : Option (List ℕ) → Option (List ℕ) → Type 0
IsNamedBy None name = name ≡ None
IsNamedBy (Some word) name = (name ≡ None) ⊎ (name ≡ Some word)

abbrev pub AreNamed : Option Asked → RoomState → Type 0
AreNamed asked room = (slot : Slot) → IsFile slot → IsNamedBy (word_of asked slot) (at room slot).name

-- no output file has a name
pub record IsUnstarted (room : RoomState) : Type 0 where
  pub each : (slot : Slot) → IsWrittenFile slot → (at room slot).name ≡ None

-- no file but the settings has a name
pub record HasSettingsAlone (room : RoomState) : Type 0 where
  pub each : (slot : Slot) → IsFile slot → slot ≢ Settings → (at room slot).name ≡ None

-- all files of the command are open by their words, and its outputs are ready
pub record IsStarted (asked : Option Asked) (room : RoomState) : Type 0 where
  pub named : (slot : Slot) → IsFile slot → (at room slot).name ≡ word_of asked slot
  pub ready : AreReady asked room
