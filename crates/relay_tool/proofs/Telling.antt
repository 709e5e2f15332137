-- What a line tells of a sample set, written.
use Rattle.std.proofs.Common.{◌≡◌, ℕ, List, [], ◌∷◌, ◌++◌, ◌<◌, length, map, sym, ◌∙◌, ap, subst}
use Rattle.std.specs.Prelude.{Ok, Err, Result, Option, None, Some, slice_index_or}
use Rattle.std.specs.Option.{option_map}
use Rattle.room_io.specs.Room.{RoomState}
use Rattle.room_io.specs.declared.room.Slot.TheVariants.{Goose}
use Rattle.sv_frame.specs.Asdu.{PlainAsdu}
use Rattle.relay_settings.specs.Settings.{PlainLine, PlainSettings}
use Rattle.relay_settings.specs.declared.types.Common.{Common}
use Rattle.event_record.specs.declared.event.Event.{Event}
use Rattle.event_record.specs.Time.{time_of}
use Rattle.event_record.specs.declared.time.At.{At}
use Rattle.goose_publish.specs.declared.points.Send.{Send}
use Rattle.goose_publish.specs.GooseFrame.{frame_bytes}
use Rattle.line_relay.specs.Bursts.{PlainBurst}
use Rattle.line_bank.specs.Owners.{owner, own}
use Rattle.line_bank.specs.Banks.{told_by}
use Rattle.station.specs.Told.{Told, tells_by}
use Rattle.station.specs.KeptStation.{StandsFor, IsTold, lines_of}
use Rattle.station.specs.declared.station.Station.{Station}
use Rattle.line_relay.specs.KeptLine.{StandsFor as LineStandsFor}
use Rattle.line_relay.specs.declared.line.Line.{Line}
use Rattle.relay_tool.specs.Output.{event_item, send_items, items_of, told_items, heard_items, frame_record}
use Rattle.relay_tool.specs.Making.{Makes}
use Rattle.relay_tool.specs.declared.put.Failed.{Failed}
use Rattle.relay_tool.proofs.Writing.{Makes-nothing, Makes-stop}

-- the record of the frame that is sent was written
pub send-made : (common : Common) (settings : PlainLine) (send : Send) (at : At) (frame bytes : List ℕ) {a b : RoomState} {result : Result (Unit {0}) Failed} →
    at ≡ time_of common send.number → frame ≡ frame_bytes common settings.goose send → bytes ≡ frame_record at frame →
    Makes (record { slot = Goose; line = Some settings.name; bytes = bytes } ∷ []) a b result → Makes (send_items common settings (Some send)) a b result
send-made common settings send at frame bytes {a} {b} {result} moment framed text made =
    subst (λ (xs : List ℕ). Makes (record { slot = Goose; line = Some settings.name; bytes = xs } ∷ []) a b result)
    (text ∙ (ap (λ (x : At). frame_record x frame) moment ∙ ap (frame_record (time_of common send.number)) framed)) made

-- the events of a line were written, by its name
pub events-told : (settings : PlainLine) (name : List ℕ) (slice events : List Event) {a b : RoomState} → name ≡ settings.name → slice ≡ events →
    Makes (map (event_item name) slice) a b (Ok tt) → Makes (map (event_item settings.name) events) a b (Ok tt)
events-told settings name slice events {a} {b} named is made =
    subst (λ n. Makes (map (event_item n) events) a b (Ok tt)) named (subst (λ es. Makes (map (event_item name) es) a b (Ok tt)) is made)

-- one of them failed, and what stands behind them was not begun
pub events-failed : (common : Common) (settings : PlainLine) (name : List ℕ) (slice events : List Event) (send : Option Send) {a b : RoomState} {e : Failed} → name ≡ settings.name → slice ≡ events →
    Makes (map (event_item name) slice) a b (Err e) → Makes (map (event_item settings.name) events ++ send_items common settings send) a b (Err e)
events-failed common settings name slice events send {a} {b} {e} named is made =
    Makes-stop (send_items common settings send) (Makes-nothing a)
    (subst (λ n. Makes (map (event_item n) events) a b (Err e)) named (subst (λ es. Makes (map (event_item name) es) a b (Err e)) is made))

-- the owner's burst is what is written of a sample set
pub told-made : (settings : PlainSettings) (past : List PlainAsdu) (a : PlainAsdu) (place : ℕ) (burst : PlainBurst) {x y : RoomState} {result : Result (Unit {0}) Failed} →
    (told_is : IsTold settings (a ∷ past) place burst) → Makes (items_of settings.common told_is.line burst) x y result → Makes (heard_items settings (a ∷ past)) x y result
told-made settings past a place burst {x} {y} {result} told_is made =
    subst (λ (o : Option Told). Makes (told_items settings.common o) x y result) (sym told_is.is) made

-- nothing is written of a sample set that no line owns
pub none-heard : (settings : PlainSettings) (past : List PlainAsdu) (a : PlainAsdu) → owner a settings.lines ≡ None → heard_items settings (a ∷ past) ≡ []
none-heard settings past a none = ap (λ o. told_items settings.common (option_map (told_by (tells_by settings) a past) o)) none

-- the line at a place has heard its own
pub line-stands : (settings : PlainSettings) (past : List PlainAsdu) (station : Station) (place : ℕ) (line : PlainLine) (held : Line) → StandsFor settings past station → place < length settings.lines →
    ((d : PlainLine) → slice_index_or settings.lines place d ≡ line) → ((d : Line) → held ≡ slice_index_or (lines_of station) place d) → LineStandsFor settings.common line (own line past) held
line-stands settings past station place line held stands within at_place is =
    subst (λ (h : Line). LineStandsFor settings.common line (own line past) h) (sym (is held))
    (subst (λ (l : PlainLine). LineStandsFor settings.common l (own l past) (slice_index_or (lines_of station) place held)) (at_place line) (stands.each place line held within))
