-- The slots of what is written.
use Rattle.std.proofs.Common.{◌≡◌, ◌∙◌, ℕ, zero, suc, ◌+◌, Bool, true, IsTrue, List, [], ◌∷◌, ◌++◌, Option, None, Some, map, reverse, sym, ap}
use Rattle.room_io.specs.declared.room.Slot.{Slot}
use Rattle.room_io.specs.declared.room.Slot.TheVariants.{Goose, Log, Config, Data}
use Rattle.sample_windows.specs.Windows.{in_order}
use Rattle.sv_frame.specs.Asdu.{PlainAsdu}
use Rattle.sv_frame.specs.Frame.{Sv, other, bad, pdu}
use Rattle.goose_publish.specs.declared.points.Send.{Send}
use Rattle.relay_settings.specs.Settings.{PlainLine, PlainSettings}
use Rattle.relay_settings.specs.declared.types.Common.{Common}
use Rattle.line_bank.specs.Banks.{TellsOf}
use Rattle.station.specs.Told.{Told, told}
use Rattle.inverse_time.specs.BackupLines.{backup_told}
use Rattle.fault_locate.specs.declared.located.Located.{Located}
use Rattle.fault_locate.specs.LocateLines.{located_told}
use Rattle.breaker_guard.specs.GuardLines.{guard_told}
use Rattle.comtrade_write.specs.Recordings.{config_of, data_of}
use Rattle.relay_tool.specs.Words.{Study, backup, locate, guard}
use Rattle.relay_tool.specs.Output.{Item, Tells, event_item, send_items, told_items, heard_items, backup_item, backup_items, located_items, guard_item, guard_items, owner_items, study_items, config_item, data_item, pair_items, reading, sets_of, frame_items, items_from, out}
use Rattle.relay_tool.specs.Files.{slot_after}

-- each of these writes is of such a slot
abbrev pub AreIn : (Slot → Bool) → List Item → Type 0
AreIn test [] = Unit {0}
AreIn test (item ∷ items) = IsTrue (test item.slot) × AreIn test items

pub in-append : (test : Slot → Bool) (xs ys : List Item) → AreIn test xs → AreIn test ys → AreIn test (xs ++ ys)
in-append test [] ys p q = q
in-append test (x ∷ xs) ys p q = (p.0, in-append test xs ys p.1 q)

in-map : {X : Type 0} (test : Slot → Bool) (item : X → Item) (xs : List X) → ((x : X) → IsTrue (test (item x).slot)) → AreIn test (map item xs)
in-map test item [] p = tt
in-map test item (x ∷ xs) p = (p x, in-map test item xs p)

abbrev test_at : (Slot → Bool) → Option Slot → Bool
test_at test None = true
test_at test (Some slot) = test slot

-- and so is the next of them
pub in-after : (test : Slot → Bool) (k : ℕ) (items : List Item) (slot : Slot) → AreIn test items → slot_after k items ≡ Some slot → IsTrue (test slot)
in-after test k [] slot p e = cc
in-after test zero (x ∷ xs) slot p e = ap (test_at test) (sym e) ∙ p.0
in-after test (suc k) (x ∷ xs) slot p e = in-after test k xs slot p.1 e

-- ---- what is told of a sample set

in-send : (test : Slot → Bool) → IsTrue (test Goose) → (common : Common) (line : PlainLine) (send : Option Send) → AreIn test (send_items common line send)
in-send test goose common line None = tt
in-send test goose common line (Some send) = (goose, tt)

in-told : (test : Slot → Bool) → IsTrue (test Goose) → IsTrue (test Log) → (common : Common) (told : Option Told) → AreIn test (told_items common told)
in-told test goose log common None = tt
in-told test goose log common (Some t) =
    in-append test (map (event_item t.line.name) t.told.events) (send_items common t.line t.told.send)
    (in-map test (event_item t.line.name) t.told.events (λ event. log)) (in-send test goose common t.line t.told.send)

-- `replay` writes the log and GOOSE frames
pub in-heard : (test : Slot → Bool) → IsTrue (test Goose) → IsTrue (test Log) → (settings : PlainSettings) (past : List PlainAsdu) → AreIn test (heard_items settings past)
in-heard test goose log settings past = in-told test goose log settings.common (told settings past)

in-owner : {Said : Type 0} (test : Slot → Bool) (items : List ℕ → Said → List Item) → ((name : List ℕ) (said : Said) → AreIn test (items name said)) → (told : Option (TellsOf Said)) → AreIn test (owner_items items told)
in-owner test items p None = tt
in-owner test items p (Some t) = p t.line.name t.told

in-located : (test : Slot → Bool) → IsTrue (test Log) → (name : List ℕ) (located : Option Located) → AreIn test (located_items name located)
in-located test log name None = tt
in-located test log name (Some located) = (log, tt)

-- a study writes the log
pub in-study : (test : Slot → Bool) → IsTrue (test Log) → (study : Study) (settings : PlainSettings) (past : List PlainAsdu) → AreIn test (study_items study settings past)
in-study test log (backup dial) settings past = in-owner test backup_items (λ name events. in-map test (backup_item name) events (λ event. log)) (backup_told settings dial past)
in-study test log locate settings past = in-owner test located_items (in-located test log) (located_told settings past)
in-study test log (guard times) settings past = in-owner test guard_items (λ name events. in-map test (guard_item name) events (λ event. log)) (guard_told settings times past)

-- the record of a trip is the lines of its two files
pub in-pair : (test : Slot → Bool) → IsTrue (test Config) → IsTrue (test Data) → (common : Common) (line : PlainLine) (k : ℕ) (past : List PlainAsdu) → AreIn test (pair_items common line k past)
in-pair test config values common line k past =
    in-append test (map (config_item line.name) (config_of common line k past)) (map (data_item line.name) (data_of common line k past))
    (in-map test (config_item line.name) (config_of common line k past) (λ text. config)) (in-map test (data_item line.name) (data_of common line k past) (λ text. values))

-- ---- what is written of records

in-sets : (test : Slot → Bool) (tells : Tells) → ((past : List PlainAsdu) → AreIn test (tells past)) → (past asdus : List PlainAsdu) → AreIn test (in_order tells past asdus)
in-sets test tells p past [] = tt
in-sets test tells p past (a ∷ asdus) = in-append test (tells (a ∷ past)) (in_order tells (a ∷ past) asdus) (p (a ∷ past)) (in-sets test tells p (a ∷ past) asdus)

in-frame : (test : Slot → Bool) → IsTrue (test Log) → (tells : Tells) → ((past : List PlainAsdu) → AreIn test (tells past)) → (number : ℕ) (past : List PlainAsdu) (sv : Sv) → AreIn test (frame_items tells number past sv)
in-frame test log tells p number past other = tt
in-frame test log tells p number past (bad reason) = (log, tt)
in-frame test log tells p number past (pdu asdus) = in-sets test tells p past asdus

in-records : (test : Slot → Bool) → IsTrue (test Log) → (tells : Tells) → ((past : List PlainAsdu) → AreIn test (tells past)) → (number : ℕ) (past : List PlainAsdu) (bodies : List (List ℕ)) → AreIn test (items_from tells number past bodies)
unfolding items_from
in-records test log tells p number past [] = tt
in-records test log tells p number past (body ∷ bodies) =
    in-append test (frame_items tells number past (reading body)) (items_from tells (number + 1) (reverse (sets_of (reading body)) ++ past) bodies)
    (in-frame test log tells p number past (reading body)) (in-records test log tells p (number + 1) (reverse (sets_of (reading body)) ++ past) bodies)

pub in-out : (test : Slot → Bool) → IsTrue (test Log) → (tells : Tells) → ((past : List PlainAsdu) → AreIn test (tells past)) → (bodies : List (List ℕ)) → AreIn test (out tells bodies)
in-out test log tells p bodies = in-records test log tells p 1 [] bodies
