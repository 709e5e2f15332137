use Rattle.std.proofs.Common.{◌∙◌, sym}
use Rattle.relay_settings.specs.Settings.{plain_line}
use Rattle.line_relay.specs.Inside.{has_current}
use Rattle.line_relay.proofs.InsideLemmas.{masks_without, masks_formed}
use Rattle.line_relay.proofs.inside.formed_masks.Goals as goal

pub returns-then-with_current-eq0-clause-masks : goal.returns-then-with_current-eq0-clause-masks
unfolding has_current
returns-then-with_current-eq0-clause-masks g c =
    rw (← c.measure-m.ensures.value)
    (sym (masks_without c.args.n (plain_line c.args.settings.now) c.measure-m.result c.args.polarising c.args.swing
    (sym c.current_allowed-with_current.ensures ∙ c.if-with_current-eq0.true)))

pub returns-clause-masks : goal.returns-clause-masks
unfolding has_current
returns-clause-masks g c =
    rw (← c.measure-m.ensures.value)
    (c.five_masks.ensures.masks ∙ rw c.as_slice-zones.ensures.value
    (masks_formed c.args.n (plain_line c.args.settings.now) c.measure-m.result c.args.polarising c.args.swing
    c.current_allowed-with_current.result c.form.new.self c.form_sides-sides.result
    (c.form.ensures (plain_line c.args.settings.now) c.measure-m.result c.args.polarising c.loops_of-loops.ensures) c.form_sides-sides.ensures c.current_allowed-with_current.ensures))
