use Rattle.std.proofs.Common.{◌<◌, arith, length}
use Rattle.sv_frame.specs.Asdu.{plain_asdu}
use Rattle.line_bank.proofs.BankLaws.{heard-next, unheard-next, told-is, no-owner, small-next}
use Rattle.line_bank.proofs.bank.LineBank.hear.Goals as goal

pub returns-in_err-place-clause-none : goal.returns-in_err-place-clause-none
returns-in_err-place-clause-none g c settings asked past stands =
    rw c.from_residual.ensures (no-owner settings.lines (plain_asdu c.args.a.now) (c.in_err-place.ensures.none settings asked past stands))

pub returns-in_err-place-clause-after : goal.returns-in_err-place-clause-after
returns-in_err-place-clause-after g c settings asked past stands =
    unheard-next (g.E.LineElement.stands settings.common asked) settings.lines past c.args.self.now.lines.items (plain_asdu c.args.a.now) stands (c.in_err-place.ensures.none settings asked past stands)

pub invariant_of-self-2 : goal.invariant_of-self-2
invariant_of-self-2 g c = record {
  near = small-next g.E.LineElement.last c.args.self.now.lines.items c.args.self.now.heard c.in_ok-place.place c.index_mut-line.result.now c.take-told.new.self
      c.args.self.now.near c.in_ok-place.ensures.within c.index_mut-line.ensures.value c.take-told.ensures.grows;
}

pub returns-clause-told : goal.returns-clause-told
returns-clause-told g c settings asked past stands =
    let within : c.in_ok-place.place < length settings.lines = omega (arith, stands.count, c.in_ok-place.ensures.within) in
    told-is (g.E.LineElement.stands settings.common asked) settings.lines past c.args.self.now.lines.items (plain_asdu c.args.a.now) stands c.in_ok-place.place within (c.in_ok-place.ensures.mine settings asked past stands)
    (g.E.LineElement.tells settings.common asked) c.index_mut-line.result.now (g.E.LineElement.said c.take-told.result) c.index_mut-line.ensures.value
    (λ line asdus held. c.take-told.ensures.told settings.common asked line asdus held)

pub returns-clause-after : goal.returns-clause-after
returns-clause-after g c settings asked past stands =
    let within : c.in_ok-place.place < length settings.lines = omega (arith, stands.count, c.in_ok-place.ensures.within) in
    heard-next (g.E.LineElement.stands settings.common asked) settings.lines past c.args.self.now.lines.items (plain_asdu c.args.a.now) stands c.in_ok-place.place within (c.in_ok-place.ensures.mine settings asked past stands)
    c.index_mut-line.result.now c.take-told.new.self c.index_mut-line.ensures.value (λ line asdus held. c.take-told.ensures.after settings.common asked line asdus held)
