-- What the types of the code stand for, and what a result gives.
use Rattle.std.specs.Prelude.{◌≡◌, ◌≤◌, length, Result, Ok, Err}
use Rattle.toml.specs.View.{table_view}
use Rattle.settings_read.specs.declared.place.Refusal.{Refusal as CodeRefusal}
use Rattle.settings_read.specs.declared.place.Place.{Place as CodePlace}
use Rattle.settings_read.specs.declared.error.SettingsError.{SettingsError}
use Rattle.settings_read.specs.declared.error.SettingsError.TheVariants.{NoMemory, Refused}
use Rattle.settings_read.specs.Walk.{Refusal, Place, Answer, refused}

abbrev pub plain_refusal : CodeRefusal → Refusal
plain_refusal r = record { number = r.number; key = r.key.bytes }

abbrev pub plain_place : CodePlace → Place
plain_place p = record { name = p.name.bytes; prefix = p.prefix.bytes; table = table_view p.table.now }

-- what a function returned, with its value seen by view
abbrev pub seen : {X Y : Type 0} → (X → Y) → Result X CodeRefusal → Answer Y
seen view (Ok x) = Ok (view x)
seen view (Err r) = Err (plain_refusal r)

-- The same of a function that takes memory: it may also say that there was none.
abbrev pub Fails : {Y : Type 0} → SettingsError → Answer Y → Type 0
Fails NoMemory answer = Unit {0}
Fails (Refused number key) answer = Err (refused number key.bytes) ≡ answer

abbrev pub Gives : {X Y : Type 0} → (X → Y) → Result X SettingsError → Answer Y → Type 0
Gives view (Ok x) answer = Ok (view x) ≡ answer
Gives view (Err e) answer = Fails e answer

-- a refusal has a number from 1 to 12, and a path of at most 64 bytes
abbrev pub IsShort : SettingsError → Type 0
IsShort NoMemory = Unit {0}
IsShort (Refused number key) = (1 ≤ number) × (number ≤ 12) × (length key.bytes ≤ 64)
