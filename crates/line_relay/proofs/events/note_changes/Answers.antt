use Rattle.std.specs.Option.{option_map}
use Rattle.std.specs.Prelude.{◌++◌}
use Rattle.std.proofs.Common.{◌∙◌, sym, ap}
use Rattle.std.proofs.lemmas.List.{append-nil}
use Rattle.event_record.specs.Time.{time_of}
use Rattle.line_relay.specs.Events.{told}
use Rattle.line_relay.proofs.EventLemmas.{shown_changes-same}
use Rattle.line_relay.proofs.events.note_changes.Goals as goal

pub returns-then-is_as_before-clause-events : goal.returns-then-is_as_before-clause-events
returns-then-is_as_before-clause-events c =
    let same = c.is_as_before.ensures.0 c.if-is_as_before.true in
    let at = option_map (time_of c.args.common.now) c.args.last in
    let start = c.args.events.now.items in
    let none = shown_changes-same c.args.shown.now c.args.now.now c.args.trip.now same.0 same.1 same.2 in
    sym (append-nil start) ∙ ap (λ whats. start ++ told at whats) (sym none)

pub returns-then-is_as_before-clause-shown : goal.returns-then-is_as_before-clause-shown
returns-then-is_as_before-clause-shown c = (c.is_as_before.ensures.0 c.if-is_as_before.true).2
