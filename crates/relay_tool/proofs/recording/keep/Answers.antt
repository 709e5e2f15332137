use Rattle.std.proofs.Common.{◌∙◌, refl, sym, ap, subst, IsTrue}
use Rattle.std.specs.Prelude.{Some}
use Rattle.std.proofs.lemmas.Result.{err_from_is_err_and}
use Rattle.relay_settings.specs.Settings.{plain_settings}
use Rattle.relay_tool.specs.Asking.{names_of_record}
use Rattle.relay_tool.specs.Words.{recording}
use Rattle.relay_tool.specs.Leaving.{Leaves}
use Rattle.room_io.specs.Room.{SlotState}
use Rattle.room_io.specs.declared.room.Slot.TheVariants.{Config, Data}
use Rattle.relay_tool.proofs.Slots.{told_at, kept-at}
use Rattle.relay_tool.proofs.Staging.{Laws}
use Rattle.relay_tool.proofs.Replaying.{read-by}
use Rattle.relay_tool.proofs.Keeping.{record-capture-end, listen-fault, stopped-at, lacking-end, has-by, config-fault, data-fault, write-fault, pair-end}
use Rattle.relay_tool.proofs.recording.keep.Goals as goal

pub returns-in_err-open_capture : goal.returns-in_err-open_capture
returns-in_err-open_capture g c line settings old unused reads is stands =
    let n = names_of_record c.args.words.now in
    let s = plain_settings settings in
    let read = read-by (recording n) n.settings refl unused (record { unopened = g.met.R.Room.unopened c.args.room.now }) reads in
    let p = err_from_is_err_and c.from_residual.result c.from_residual.ensures.1 in
    rw (p.1, p.2) (record-capture-end n s line c.in_err-open_capture.field-0.0 read (λ told. reads.accepted.1 told) is (record { unopened = g.met.R.Room.unopened c.open_capture.new.room }) c.in_err-open_capture.ensures)

pub returns-in_err-stopped : goal.returns-in_err-stopped
returns-in_err-stopped g c line settings old unused reads is stands =
    let n = names_of_record c.args.words.now in
    let s = plain_settings settings in
    let read = read-by (recording n) n.settings refl unused (record { unopened = g.met.R.Room.unopened c.args.room.now }) reads in
    let p = err_from_is_err_and c.from_residual-in_err-stopped.result c.from_residual-in_err-stopped.ensures.1 in
    rw (p.1, p.2) (listen-fault n s line read (λ told. reads.accepted.1 told) is c.in_ok-open_capture.ensures (record { unopened = g.met.R.Room.unopened c.listen.new.room }) c.in_err-stopped.field-0.0 (c.in_err-stopped.ensures.records settings.common line c.args.words.now.trip stands))

pub returns-then-count-eq0 : goal.returns-then-count-eq0
returns-then-count-eq0 g c line settings old unused reads is stands =
    let n = names_of_record c.args.words.now in
    let s = plain_settings settings in
    let read = read-by (recording n) n.settings refl unused (record { unopened = g.met.R.Room.unopened c.args.room.now }) reads in
    let law : Laws (g.R.Room.state c.listen.new.room) = record { unopened = g.met.R.Room.unopened c.listen.new.room } in
    let listens = c.in_ok-stopped.ensures.records settings.common line c.args.words.now.trip stands in
    let told_d : IsTrue old.tells → IsTrue (g.R.Room.state c.open_capture.new.room).tells = λ told. told_at c.in_ok-open_capture.ensures.only (read.stage.tells ∙ told) in
    let at_stop = stopped-at n s line read (λ told. reads.accepted.1 told) is c.in_ok-open_capture.ensures law c.in_ok-stopped.stopped reads.named listens in
    subst (λ e. Leaves (Some (recording n)) old (g.R.Room.state c.listen.new.room) e) (sym c.lacking.ensures)
    (lacking-end n at_stop law c.in_ok-stopped.stopped c.trips.result
    (λ told. (listens.stops (told_d told)).ending)
    (λ told. c.trips.ensures.begun settings.common line c.args.words.now.trip _ (listens.stops (told_d told)).stands)
    (λ told. (c.count.ensures.none settings.common line c.args.words.now.trip _ (listens.stops (told_d told)).stands).0 c.if-count-eq0.true))

pub returns-in_err-open_output : goal.returns-in_err-open_output
returns-in_err-open_output g c line settings old unused reads is stands =
    let n = names_of_record c.args.words.now in
    let s = plain_settings settings in
    let read = read-by (recording n) n.settings refl unused (record { unopened = g.met.R.Room.unopened c.args.room.now }) reads in
    let law : Laws (g.R.Room.state c.listen.new.room) = record { unopened = g.met.R.Room.unopened c.listen.new.room } in
    let listens = c.in_ok-stopped.ensures.records settings.common line c.args.words.now.trip stands in
    let told_d : IsTrue old.tells → IsTrue (g.R.Room.state c.open_capture.new.room).tells = λ told. told_at c.in_ok-open_capture.ensures.only (read.stage.tells ∙ told) in
    let at_stop = stopped-at n s line read (λ told. reads.accepted.1 told) is c.in_ok-open_capture.ensures law c.in_ok-stopped.stopped reads.named listens in
    let has = λ (told : IsTrue old.tells). has-by n at_stop law c.count.result c.if-count-eq0.false (c.count.ensures.count settings.common line c.args.words.now.trip _ (listens.stops (told_d told)).stands)
    (c.count.ensures.none settings.common line c.args.words.now.trip _ (listens.stops (told_d told)).stands).1 in
    let p = err_from_is_err_and c.from_residual-in_err-open_output.result c.from_residual-in_err-open_output.ensures.1 in
    rw (p.1, p.2) (config-fault n at_stop law has c.in_err-open_output.field-0.0 c.in_err-open_output.ensures)

pub returns-in_err-open_output-2 : goal.returns-in_err-open_output-2
returns-in_err-open_output-2 g c line settings old unused reads is stands =
    let n = names_of_record c.args.words.now in
    let s = plain_settings settings in
    let read = read-by (recording n) n.settings refl unused (record { unopened = g.met.R.Room.unopened c.args.room.now }) reads in
    let law : Laws (g.R.Room.state c.listen.new.room) = record { unopened = g.met.R.Room.unopened c.listen.new.room } in
    let listens = c.in_ok-stopped.ensures.records settings.common line c.args.words.now.trip stands in
    let told_d : IsTrue old.tells → IsTrue (g.R.Room.state c.open_capture.new.room).tells = λ told. told_at c.in_ok-open_capture.ensures.only (read.stage.tells ∙ told) in
    let at_stop = stopped-at n s line read (λ told. reads.accepted.1 told) is c.in_ok-open_capture.ensures law c.in_ok-stopped.stopped reads.named listens in
    let has = λ (told : IsTrue old.tells). has-by n at_stop law c.count.result c.if-count-eq0.false (c.count.ensures.count settings.common line c.args.words.now.trip _ (listens.stops (told_d told)).stands)
    (c.count.ensures.none settings.common line c.args.words.now.trip _ (listens.stops (told_d told)).stands).1 in
    let p = err_from_is_err_and c.from_residual-in_err-open_output-2.result c.from_residual-in_err-open_output-2.ensures.1 in
    rw (p.1, p.2) (data-fault n at_stop law has c.in_ok-open_output.ensures c.in_err-open_output-2.field-0.0 c.in_err-open_output-2.ensures)

pub returns-in_err-put_pair : goal.returns-in_err-put_pair
returns-in_err-put_pair g c line settings old unused reads is stands =
    let n = names_of_record c.args.words.now in
    let s = plain_settings settings in
    let read = read-by (recording n) n.settings refl unused (record { unopened = g.met.R.Room.unopened c.args.room.now }) reads in
    let law : Laws (g.R.Room.state c.listen.new.room) = record { unopened = g.met.R.Room.unopened c.listen.new.room } in
    let listens = c.in_ok-stopped.ensures.records settings.common line c.args.words.now.trip stands in
    let told_d : IsTrue old.tells → IsTrue (g.R.Room.state c.open_capture.new.room).tells = λ told. told_at c.in_ok-open_capture.ensures.only (read.stage.tells ∙ told) in
    let at_stop = stopped-at n s line read (λ told. reads.accepted.1 told) is c.in_ok-open_capture.ensures law c.in_ok-stopped.stopped reads.named listens in
    let has = λ (told : IsTrue old.tells). has-by n at_stop law c.count.result c.if-count-eq0.false (c.count.ensures.count settings.common line c.args.words.now.trip _ (listens.stops (told_d told)).stands)
    (c.count.ensures.none settings.common line c.args.words.now.trip _ (listens.stops (told_d told)).stands).1 in
    let p = err_from_is_err_and c.from_residual-in_err-put_pair.result c.from_residual-in_err-put_pair.ensures.1 in
    let made = c.in_err-put_pair.ensures.made settings.common line c.args.words.now.trip in
    rw (p.1, p.2) (write-fault n at_stop law has c.in_ok-open_output.ensures c.in_ok-open_output-2.ensures c.in_err-put_pair.ensures.only c.in_err-put_pair.field-0.0 _ (made listens.past listens.stands).end
    (λ told. (made _ (listens.stops (told_d told)).stands).end))

pub returns : goal.returns
returns g c line settings old unused reads is stands =
    let n = names_of_record c.args.words.now in
    let s = plain_settings settings in
    let read = read-by (recording n) n.settings refl unused (record { unopened = g.met.R.Room.unopened c.args.room.now }) reads in
    let law : Laws (g.R.Room.state c.listen.new.room) = record { unopened = g.met.R.Room.unopened c.listen.new.room } in
    let listens = c.in_ok-stopped.ensures.records settings.common line c.args.words.now.trip stands in
    let told_d : IsTrue old.tells → IsTrue (g.R.Room.state c.open_capture.new.room).tells = λ told. told_at c.in_ok-open_capture.ensures.only (read.stage.tells ∙ told) in
    let at_stop = stopped-at n s line read (λ told. reads.accepted.1 told) is c.in_ok-open_capture.ensures law c.in_ok-stopped.stopped reads.named listens in
    let has = λ (told : IsTrue old.tells). has-by n at_stop law c.count.result c.if-count-eq0.false (c.count.ensures.count settings.common line c.args.words.now.trip _ (listens.stops (told_d told)).stands)
    (c.count.ensures.none settings.common line c.args.words.now.trip _ (listens.stops (told_d told)).stands).1 in
    let made = c.in_ok-put_pair.ensures.made settings.common line c.args.words.now.trip in
    subst (λ e. Leaves (Some (recording n)) old (g.R.Room.state c.put_pair.new.room) e) (sym c.from.ensures)
    (pair-end n at_stop law has c.in_ok-open_output.ensures c.in_ok-open_output-2.ensures c.in_ok-put_pair.ensures.only c.in_ok-stopped.stopped
    (λ told. (listens.stops (told_d told)).ending)
    (λ told. (made _ (listens.stops (told_d told)).stands).all (told_at c.in_ok-open_output-2.ensures.only (told_at c.in_ok-open_output.ensures.only (at_stop.stage.tells ∙ told)))))

pub open_output-requires-clause-unnamed : goal.open_output-requires-clause-unnamed
open_output-requires-clause-unnamed g c =
    ap (λ (x : SlotState). x.name) (kept-at Config c.in_ok-stopped.ensures.only refl ∙ kept-at Config c.in_ok-open_capture.ensures.only refl) ∙ c.requires.config

pub open_output-requires-2-clause-unnamed : goal.open_output-requires-2-clause-unnamed
open_output-requires-2-clause-unnamed g c =
    ap (λ (x : SlotState). x.name) (kept-at Data c.in_ok-open_output.ensures.only refl ∙ (kept-at Data c.in_ok-stopped.ensures.only refl ∙ kept-at Data c.in_ok-open_capture.ensures.only refl)) ∙ c.requires.values
