use Rattle.std.proofs.Common.{◌∙◌, ap}
use Rattle.line_relay.specs.Inside.{is_forward, is_reverse}
use Rattle.line_relay.specs.FormedLoops.{sense_at}
use Rattle.line_relay.proofs.LoopLemmas.{mask_six}
use Rattle.line_relay.proofs.loops.side_masks.Goals as goal

pub returns-clause-ahead : goal.returns-clause-ahead
returns-clause-ahead c =
    c.mask_of.ensures
    ∙ mask_six (λ lp. is_forward (sense_at c.args.line c.args.loops.now c.args.by_minus c.args.with_current lp)) _ _ _ _ _ _
    (c.is_forward.ensures ∙ ap is_forward c.sense_of-ag.ensures)
    (c.is_forward-2.ensures ∙ ap is_forward c.sense_of-bg.ensures)
    (c.is_forward-3.ensures ∙ ap is_forward c.sense_of-cg.ensures)
    (c.is_forward-4.ensures ∙ ap is_forward c.sense_of-ab.ensures)
    (c.is_forward-5.ensures ∙ ap is_forward c.sense_of-bc.ensures)
    (c.is_forward-6.ensures ∙ ap is_forward c.sense_of-ca.ensures)

pub returns-clause-behind : goal.returns-clause-behind
returns-clause-behind c =
    c.mask_of-2.ensures
    ∙ mask_six (λ lp. is_reverse (sense_at c.args.line c.args.loops.now c.args.by_minus c.args.with_current lp)) _ _ _ _ _ _
    (c.is_reverse.ensures ∙ ap is_reverse c.sense_of-ag.ensures)
    (c.is_reverse-2.ensures ∙ ap is_reverse c.sense_of-bg.ensures)
    (c.is_reverse-3.ensures ∙ ap is_reverse c.sense_of-cg.ensures)
    (c.is_reverse-4.ensures ∙ ap is_reverse c.sense_of-ab.ensures)
    (c.is_reverse-5.ensures ∙ ap is_reverse c.sense_of-bc.ensures)
    (c.is_reverse-6.ensures ∙ ap is_reverse c.sense_of-ca.ensures)
