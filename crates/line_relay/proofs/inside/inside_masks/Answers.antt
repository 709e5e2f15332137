use Rattle.std.proofs.Common.{◌≡◌, ◌∙◌, sym, ap, true}
use Rattle.std.specs.Option.{option_map}
use Rattle.relay_settings.specs.Settings.{plain_line}
use Rattle.line_relay.specs.Measured.{measured}
use Rattle.line_relay.specs.FarBelow.{greatest_by, greatest_part, is_far_below}
use Rattle.line_relay.proofs.FarBelowLemmas.{far_without}
use Rattle.line_relay.proofs.InsideLemmas.{masks_none, masks_blown, masks_without}
use Rattle.line_relay.proofs.inside.inside_masks.Goals as goal
use Rattle.line_relay.proofs.inside.inside_masks.Goals.{then-blown-via-then-blown, then-blown-via-else-blown+then-is_far_below}

pub returns-in_default-clause-masks : goal.returns-in_default-clause-masks
returns-in_default-clause-masks g c = rw c.in_default.is (sym (masks_none c.args.n (plain_line c.args.settings.now) c.args.polarising c.args.swing c.args.blown))

pub returns-then-blown-clause-masks : goal.returns-then-blown-clause-masks
returns-then-blown-clause-masks g c =
    let n = c.args.n in
    let settings = plain_line c.args.settings.now in
    let m = measured c.in-Some.phasors in
    let greatest = c.requires.greatest ∙ ap (λ phasors. greatest_by (option_map measured phasors)) c.in-Some.is in
    elim c.then-blown.branch [
      | then-blown-via-then-blown w ↦ rw (c.in-Some.is, w.if-blown.true) (sym (masks_blown n settings m c.args.polarising c.args.swing))
      | then-blown-via-else-blown+then-is_far_below w ↦ (
          let far : is_far_below (greatest_part m.currents) n c.args.settings.now.i_min ≡ true =
          ap (λ size. is_far_below size n c.args.settings.now.i_min) (sym greatest) ∙ sym w.is_far_below.ensures ∙ w.if-is_far_below.true in
          rw (c.in-Some.is, w.if-blown.false) (sym (masks_without n settings m c.args.polarising c.args.swing (far_without n settings m far))))
    ]
