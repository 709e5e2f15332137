-- Slots, told apart.
use Rattle.std.proofs.Common.{◌≡◌, ◌∙◌, ℕ, zero, suc, true, false, refl, sym, ap, IsTrue}
use Rattle.std.proofs.lemmas.Bool.{eqb-true}
use Rattle.room_io.specs.declared.room.Slot.{Slot}
use Rattle.room_io.specs.declared.room.Slot.TheVariants.{Settings, Capture, Goose, Log, Config, Data, Note, Answer}
use Rattle.room_io.proofs.Rooms.{tells-OnlyAt}
use Rattle.room_io.specs.Room.{RoomState, SlotState, at, put, OnlyAt}
use Rattle.relay_tool.specs.Files.{place_of, is_slot}

pub clash : true ≡ false → ⊥
clash e = cc

abbrev slot_at : ℕ → Slot
slot_at zero = Settings
slot_at (suc zero) = Capture
slot_at (suc (suc zero)) = Goose
slot_at (suc (suc (suc zero))) = Log
slot_at (suc (suc (suc (suc zero)))) = Config
slot_at (suc (suc (suc (suc (suc zero))))) = Data
slot_at (suc (suc (suc (suc (suc (suc zero)))))) = Note
slot_at (suc (suc (suc (suc (suc (suc (suc n))))))) = Answer

slot-place : (slot : Slot) → slot_at (place_of slot) ≡ slot
slot-place Settings = refl
slot-place Capture = refl
slot-place Goose = refl
slot-place Log = refl
slot-place Config = refl
slot-place Data = refl
slot-place Note = refl
slot-place Answer = refl

pub same-slot : (a b : Slot) → is_slot a b ≡ true → a ≡ b
same-slot a b e = sym (slot-place a) ∙ ap slot_at (eqb-true (place_of a) (place_of b) e) ∙ slot-place b

pub is_slot-refl : (slot : Slot) → is_slot slot slot ≡ true
is_slot-refl Settings = refl
is_slot-refl Capture = refl
is_slot-refl Goose = refl
is_slot-refl Log = refl
is_slot-refl Config = refl
is_slot-refl Data = refl
is_slot-refl Note = refl
is_slot-refl Answer = refl

at-other : (slot s : Slot) (room : RoomState) (x : SlotState) → is_slot slot s ≡ false → at (put room slot x) s ≡ at room s
at-other Settings Settings room x e = absurd (clash e)
at-other Settings Capture room x e = refl
at-other Settings Goose room x e = refl
at-other Settings Log room x e = refl
at-other Settings Config room x e = refl
at-other Settings Data room x e = refl
at-other Settings Note room x e = refl
at-other Settings Answer room x e = refl
at-other Capture Settings room x e = refl
at-other Capture Capture room x e = absurd (clash e)
at-other Capture Goose room x e = refl
at-other Capture Log room x e = refl
at-other Capture Config room x e = refl
at-other Capture Data room x e = refl
at-other Capture Note room x e = refl
at-other Capture Answer room x e = refl
at-other Goose Settings room x e = refl
at-other Goose Capture room x e = refl
at-other Goose Goose room x e = absurd (clash e)
at-other Goose Log room x e = refl
at-other Goose Config room x e = refl
at-other Goose Data room x e = refl
at-other Goose Note room x e = refl
at-other Goose Answer room x e = refl
at-other Log Settings room x e = refl
at-other Log Capture room x e = refl
at-other Log Goose room x e = refl
at-other Log Log room x e = absurd (clash e)
at-other Log Config room x e = refl
at-other Log Data room x e = refl
at-other Log Note room x e = refl
at-other Log Answer room x e = refl
at-other Config Settings room x e = refl
at-other Config Capture room x e = refl
at-other Config Goose room x e = refl
at-other Config Log room x e = refl
at-other Config Config room x e = absurd (clash e)
at-other Config Data room x e = refl
at-other Config Note room x e = refl
at-other Config Answer room x e = refl
at-other Data Settings room x e = refl
at-other Data Capture room x e = refl
at-other Data Goose room x e = refl
at-other Data Log room x e = refl
at-other Data Config room x e = refl
at-other Data Data room x e = absurd (clash e)
at-other Data Note room x e = refl
at-other Data Answer room x e = refl
at-other Note Settings room x e = refl
at-other Note Capture room x e = refl
at-other Note Goose room x e = refl
at-other Note Log room x e = refl
at-other Note Config room x e = refl
at-other Note Data room x e = refl
at-other Note Note room x e = absurd (clash e)
at-other Note Answer room x e = refl
at-other Answer Settings room x e = refl
at-other Answer Capture room x e = refl
at-other Answer Goose room x e = refl
at-other Answer Log room x e = refl
at-other Answer Config room x e = refl
at-other Answer Data room x e = refl
at-other Answer Note room x e = refl
at-other Answer Answer room x e = absurd (clash e)

-- a call on a slot leaves the others as they were
pub kept-at : {slot : Slot} {a b : RoomState} (s : Slot) → OnlyAt slot a b → is_slot slot s ≡ false → at b s ≡ at a s
kept-at {slot} {a} {b} s only other = ap (λ room. at room s) only.is ∙ at-other slot s a (at b slot) other

contents-put : (slot : Slot) (room : RoomState) (x : SlotState) → (put room slot x).contents ≡ room.contents
contents-put Settings room x = refl
contents-put Capture room x = refl
contents-put Goose room x = refl
contents-put Log room x = refl
contents-put Config room x = refl
contents-put Data room x = refl
contents-put Note room x = refl
contents-put Answer room x = refl

pub contents-OnlyAt : {slot : Slot} {a b : RoomState} → OnlyAt slot a b → b.contents ≡ a.contents
contents-OnlyAt {slot} {a} {b} only = ap (λ room. room.contents) only.is ∙ contents-put slot a (at b slot)

pub told_at : {slot : Slot} {a b : RoomState} → OnlyAt slot a b → IsTrue a.tells → IsTrue b.tells
told_at only told = tells-OnlyAt only ∙ told
