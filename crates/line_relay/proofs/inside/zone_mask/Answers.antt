use Rattle.std.proofs.Common.{◌≡◌, ◌∙◌, sym, refl, false}
use Rattle.std.specs.Prelude.{◌&&◌}
use Rattle.line_relay.specs.FormedLoops.{is_held, holds_formed, candidates_of}
use Rattle.line_relay.proofs.InsideLemmas.{bit_none}
use Rattle.line_relay.proofs.LoopLemmas.{loop_mask-none}
use Rattle.line_relay.proofs.PartLemmas.{mask_blocked, mask_free}
use Rattle.line_relay.proofs.inside.zone_mask.Goals as goal

pub returns-then-zone-swing-clause-mask : goal.returns-then-zone-swing-clause-mask
unfolding is_held
returns-then-zone-swing-clause-mask g c =
    sym (loop_mask-none (is_held c.args.loops.now c.args.sides.now c.args.swing c.args.zone.now) (λ lp h. rw c.if-zone-swing.true refl))

pub returns-then-candidates-eq0-clause-mask : goal.returns-then-candidates-eq0-clause-mask
unfolding is_held holds_formed
returns-then-candidates-eq0-clause-mask g c =
    let free : (c.args.zone.now.swing_block && c.args.swing) ≡ false = c.if-zone-swing.false in
    let none : candidates_of c.args.zone.now.dir c.args.sides.now ≡ 0 = sym c.candidates-candidates.ensures ∙ c.if-candidates-eq0.true in
    sym (loop_mask-none (is_held c.args.loops.now c.args.sides.now c.args.swing c.args.zone.now) (λ lp h. rw (free, none, bit_none lp) refl))

pub returns-then-zone-sides-clause-mask : goal.returns-then-zone-sides-clause-mask
unfolding is_held
returns-then-zone-sides-clause-mask g c =
    let free : (c.args.zone.now.swing_block && c.args.swing) ≡ false = c.if-zone-swing.false in
    rw (free, c.if-zone-sides.true) (c.part_mask-ground.ensures.mask
    ∙ mask_blocked c.args.zone.now c.args.loops.now c.args.sides.now _ _ c.candidates-candidates.ensures c.is_reverse-reversed.ensures)

pub returns-clause-mask : goal.returns-clause-mask
unfolding is_held
returns-clause-mask g c =
    let free : (c.args.zone.now.swing_block && c.args.swing) ≡ false = c.if-zone-swing.false in
    rw (free, c.if-zone-sides.false, c.part_mask-ground.ensures.mask, c.part_mask.ensures.mask)
    (mask_free c.args.zone.now c.args.loops.now c.args.sides.now _ _ c.candidates-candidates.ensures c.is_reverse-reversed.ensures)
