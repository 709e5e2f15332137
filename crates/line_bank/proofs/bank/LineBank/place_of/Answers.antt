use Rattle.std.proofs.Common.{◌≡◌, ◌∙◌, ℕ, ◌<◌, ap, sym, subst, arith, length, List, get_or}
use Rattle.relay_settings.specs.Settings.{PlainLine}
use Rattle.line_bank.specs.Owners.{own}
use Rattle.line_bank.proofs.BankLaws.{first-of}
use Rattle.line_bank.proofs.bank.LineBank.place_of.Goals as goal

pub returns-clause-none : goal.returns-clause-none
returns-clause-none g c settings asked past stands = λ k d inside.
    (let within : k < length c.args.self.now.lines.items = omega (arith, stands.count) in
    let h : g.row.E.Denot = first-of c.args.self.now.lines.items k within in
    let line : PlainLine = get_or settings.lines k d in
    c.loop-place.invariant k h settings.common asked line (own line past) (omega (arith, ap length c.deref-line-items.ensures.value)) (stands.each k d h inside))

pub returns-then-owns-clause-mine : goal.returns-then-owns-clause-mine
returns-then-owns-clause-mine g c settings asked past stands = λ (d : PlainLine).
    (let place : ℕ = c.loop-place.place in
    let h : g.row.E.Denot = c.line-item.result in
    let line : PlainLine = get_or settings.lines place d in
    let inside : place < length settings.lines = omega (arith, stands.count, c.loop-place-test.true, ap length c.deref-line-items.ensures.value) in
    let here : h ≡ get_or c.args.self.now.lines.items place h = c.line-item.is ∙ ap (λ (lines : List g.row.E.Denot). get_or lines place h) c.deref-line-items.ensures.value in
    sym (c.owns.ensures settings.common asked line (own line past) (subst (λ x. g.E.LineElement.stands settings.common asked line (own line past) x) (sym here) (stands.each place d h inside)))
    ∙ c.if-owns.true)
