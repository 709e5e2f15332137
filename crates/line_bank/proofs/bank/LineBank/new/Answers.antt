use Rattle.std.proofs.Common.{◌≡◌, ◌∙◌, ◌+◌, ap, sym, subst, arith, length, List, [], ◌∷◌, ◌++◌, get_or}
use Rattle.std.proofs.lemmas.List.{length_push}
use Rattle.relay_settings.specs.declared.types.LineSettings.{LineSettings}
use Rattle.line_bank.proofs.BankLaws.{AreNew, made-next, new-heard, new-small}
use Rattle.line_bank.proofs.bank.LineBank.new.Goals as goal

pub invariant_of-result : goal.invariant_of-result
invariant_of-result g c =
    let all : length c.deref-settings-items.result.now ≡ length c.args.s.now.lines.items = ap length c.deref-settings-items.ensures.value in
    record {
      near = new-small (g.E.LineElement.stands c.args.s.now.common c.args.asked) g.E.LineElement.last c.args.s.now.lines.items c.loop-settings.lines.items
          (omega (arith, c.loop-settings.invariant.count)) (λ place d h below. c.loop-settings.invariant.made place d h (omega arith));
    }

pub returns-clause-stands : goal.returns-clause-stands
returns-clause-stands g c =
    let all : length c.deref-settings-items.result.now ≡ length c.args.s.now.lines.items = ap length c.deref-settings-items.ensures.value in
    new-heard (g.E.LineElement.stands c.args.s.now.common c.args.asked) g.E.LineElement.last c.args.s.now.lines.items c.loop-settings.lines.items c.requires.settings.sv_ids
    (omega (arith, c.loop-settings.invariant.count)) (λ place d h below. c.loop-settings.invariant.made place d h (omega arith))

pub loop-settings-preserved : goal.loop-settings-preserved
loop-settings-preserved g c =
    let all : length c.deref-settings-items.result.now ≡ length c.args.s.now.lines.items = ap length c.deref-settings-items.ensures.value in
    let holds = g.E.LineElement.stands c.args.s.now.common c.args.asked in
    let written : c.push.new.self.items ≡ c.loop-settings.lines.items ++ c.in_ok-line.line ∷ [] = c.in-Ok.ensures.items in
    let is : c.settings-item.result ≡ get_or c.args.s.now.lines.items c.loop-settings.settings-index c.settings-item.result =
    c.settings-item.is ∙ ap (λ (xs : List LineSettings). get_or xs c.loop-settings.settings-index c.settings-item.result) c.deref-settings-items.ensures.value in
    record {
      count = ap length written ∙ length_push c.loop-settings.lines.items c.in_ok-line.line ∙ ap (λ n. n + 1) c.loop-settings.invariant.count;
      made = subst (λ (lines : List g.row.E.Denot). AreNew holds g.E.LineElement.last c.args.s.now.lines.items lines (c.loop-settings.settings-index + 1)) (sym written)
          (made-next holds g.E.LineElement.last c.args.s.now.lines.items c.loop-settings.lines.items c.settings-item.result c.in_ok-line.line
          c.loop-settings.settings-index c.loop-settings.invariant.count (omega arith) is (record { stands = c.in_ok-line.ensures.stands; none = c.in_ok-line.ensures.none })
          c.loop-settings.invariant.made);
    }
