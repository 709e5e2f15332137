use Rattle.std.proofs.Common.{refl, ◌∙◌, ap, sym}
use Rattle.line_relay.proofs.CycleLemmas.{window_empty}
use Rattle.line_relay.proofs.front.Front.new.Goals as goal

pub returns-clause-stands : goal.returns-clause-stands
returns-clause-stands c = record {
  same_rate = c.new-2.ensures.stands.same_rate;
  same_n = refl;
  same_conf_rev = refl;
  same_mask = refl;
  same_synch = refl;
  same_mimic = refl;
  last = c.new-2.ensures.none;
  before = refl;
  items = ap (λ b. b.items) c.in_ok-ring.ensures ∙ sym (window_empty c.args.common.now.n c.args.s.now.mimic);
}
