use Rattle.std.proofs.Common.{◌≡◌, ◌∙◌, ap, refl, not, true, false, Bool, ◌∷◌, ◌++◌, []}
use Rattle.std.specs.Bool.{then_some}
use Rattle.std.specs.Prelude.{nat_lt}
use Rattle.std.specs.Option.{option_flatten}
use Rattle.std.proofs.Common.{sym, subst, length}
use Rattle.circular_buffer.specs.Buffer.{Buffer, buffer, keep_last}
use Rattle.relay_num.specs.declared.Cx.{Cx}
use Rattle.memory_volt.specs.Polarising.{VoltTake, take_of, voltage_of}
use Rattle.memory_volt.proofs.CycleLemmas.{cycle_next, cycle_before_is}
use Rattle.memory_volt.proofs.SizeLemmas.{IsSmall, taken_small, pushed_small, oldest_small, remembered_small}
use Rattle.memory_volt.proofs.MemoryLemmas.{remembered_is, present_is, run_next}
use Rattle.memory_volt.proofs.MemoryVolt.note.Goals as goal
use Rattle.memory_volt.proofs.MemoryVolt.note.Goals.{then-low, else-low}

voltage_is : (plus : Cx) (low : Bool) → then_some (not low) plus ≡ voltage_of (take_of plus low)
voltage_is plus true = refl
voltage_is plus false = refl

pub returns-clause-after : goal.returns-clause-after
returns-clause-after g c n hold takes stands =
    let t : VoltTake = take_of c.args.plus c.args.low in
    let before : Buffer _ = c.args.self.now.voltages in
    let voltage : c.then_some-voltage.result ≡ voltage_of t = c.then_some-voltage.ensures ∙ voltage_is c.args.plus c.args.low in
    record {
      voltages = cycle_next n takes t before _ stands.voltages
          (c.push.ensures.items ∙ ap (λ v. buffer (keep_last before.capacity (before.items ++ v ∷ [])) before.capacity) voltage);
      same_hold = stands.same_hold;
      run = run_next n hold takes c.args.self.now stands t c.run_after-self.result c.run_after-self.ensures;
      frozen = elim c.if-low.branch [
        | then-low w ↦ w.self-is ∙ remembered_is n hold takes c.args.self.now stands t _ _ w.if-low.true
            (cycle_before_is n takes _ _ _ stands.voltages c.push.ensures.oldest c.flatten-cycle_before.ensures)
            w.remembered-self.ensures.over w.remembered-self.ensures.fresh w.remembered-self.ensures.kept
        | else-low w ↦ w.self-is ∙ voltage ∙ present_is n hold takes c.args.self.now stands t w.if-low.false
      ];
    }

pub returns-clause-small : goal.returns-clause-small
returns-clause-small g c bound holds plus_small =
    let old = c.args.self.now in
    let voltage : IsSmall bound c.then_some-voltage.result =
    subst (IsSmall bound) (sym c.then_some-voltage.ensures) (taken_small bound (not c.args.low) c.args.plus plus_small) in
    let before : IsSmall bound c.flatten-cycle_before.result =
    subst (IsSmall bound) (sym (c.flatten-cycle_before.ensures ∙ ap option_flatten c.push.ensures.oldest))
    (oldest_small bound old.voltages.items (nat_lt (length old.voltages.items) old.voltages.capacity) holds.voltages) in
    record {
      voltages = rw c.push.ensures.items (pushed_small bound old.voltages.capacity old.voltages.items c.then_some-voltage.result holds.voltages voltage);
      frozen = elim c.if-low.branch [
        | then-low w ↦ subst (IsSmall bound) (sym w.self-is) (remembered_small bound old.run old.hold _ _ _ before holds.frozen
            w.remembered-self.ensures.over w.remembered-self.ensures.fresh w.remembered-self.ensures.kept)
        | else-low w ↦ subst (IsSmall bound) (sym w.self-is) voltage
      ];
    }
