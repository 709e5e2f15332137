use Rattle.std.proofs.Common.{◌*◌, ◌∙◌, ap, sym, subst, arith, List, Option, None}
use Rattle.std.specs.Prelude.{All}
use Rattle.circular_buffer.specs.Buffer.{Buffer}
use Rattle.std.specs.Option.{option_flatten}
use Rattle.relay_num.specs.declared.Cx.{Cx}
use Rattle.fault_locate.proofs.LookbackLemmas.{pushed, oldest, all_pushed}
use Rattle.fault_locate.proofs.CurrentLemmas.{oldest_currents}
use Rattle.fault_locate.specs.KeptCurrents.{AreCurrents}
use Rattle.fault_locate.proofs.lookback.Lookback.take.Goals as goal

pub invariant_of-self : goal.invariant_of-self
invariant_of-self g c = record {
  small = subst (λ (b : Buffer (Option (List Cx))). All AreCurrents b.items) (sym c.push.ensures.items)
      (all_pushed AreCurrents c.begin_unless.new.self.ring.capacity c.begin_unless.new.self.ring.items c.args.currents c.begin_unless.new.self.small c.requires);
}

pub returns-clause-before : goal.returns-clause-before
returns-clause-before g c n run stands some =
    let after = c.begin_unless.ensures n run stands in
    c.flatten.ensures
    ∙ ap option_flatten (oldest (2 * n) c.args.currents _ None c.begin_unless.new.self.ring c.push.result (omega arith) after.ring c.push.ensures.oldest)

pub returns-clause-after : goal.returns-clause-after
returns-clause-after g c n run stands some =
    let after = c.begin_unless.ensures n run stands in
    record { ring = pushed (2 * n) c.args.currents _ c.begin_unless.new.self.ring c.push.new.self (omega arith) after.ring c.push.ensures.items }

pub returns-clause-small : goal.returns-clause-small
returns-clause-small g c = oldest_currents c.begin_unless.new.self.ring.items _ c.push.result c.flatten.result c.begin_unless.new.self.small c.push.ensures.oldest c.flatten.ensures
