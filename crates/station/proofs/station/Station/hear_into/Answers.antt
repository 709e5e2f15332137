use Rattle.std.proofs.Common.{◌<◌, arith, length}
use Rattle.sv_frame.specs.Asdu.{plain_asdu}
use Rattle.line_bank.proofs.BankLaws.{heard-next, unheard-next, told-is, no-owner, small-next}
use Rattle.line_relay.specs.Bursts.{plain_burst}
use Rattle.line_relay.specs.KeptLine.{last_of}
use Rattle.station.specs.Told.{tells_by}
use Rattle.station.specs.KeptStation.{Holds}
use Rattle.station.proofs.station.Station.hear_into.Goals as goal

pub returns-in_err-place-clause-none : goal.returns-in_err-place-clause-none
returns-in_err-place-clause-none g c settings past stands =
    rw c.from_residual.ensures (no-owner settings.lines (plain_asdu c.args.a.now) (c.in_err-place.ensures.none settings past stands))

pub returns-in_err-place-clause-after : goal.returns-in_err-place-clause-after
returns-in_err-place-clause-after g c settings past stands =
    unheard-next (Holds settings) settings.lines past c.args.self.now.lines.items (plain_asdu c.args.a.now) stands (c.in_err-place.ensures.none settings past stands)

pub invariant_of-self-2 : goal.invariant_of-self-2
invariant_of-self-2 g c = record {
  near = small-next last_of c.args.self.now.lines.items c.args.self.now.heard c.in_ok-place.place c.index_mut-line.result.now c.take_into.new.self
      c.args.self.now.near c.in_ok-place.ensures.within c.index_mut-line.ensures.value c.take_into.ensures.grows;
}

pub returns-clause-told : goal.returns-clause-told
returns-clause-told g c settings past stands =
    let within : c.in_ok-place.place < length settings.lines = omega (arith, stands.count, c.in_ok-place.ensures.within) in
    told-is (Holds settings) settings.lines past c.args.self.now.lines.items (plain_asdu c.args.a.now) stands c.in_ok-place.place within (c.in_ok-place.ensures.mine settings past stands)
    (tells_by settings) c.index_mut-line.result.now (plain_burst c.take_into.new.burst) c.index_mut-line.ensures.value
    (λ line asdus held. c.take_into.ensures.burst settings.common line asdus held)

pub returns-clause-after : goal.returns-clause-after
returns-clause-after g c settings past stands =
    let within : c.in_ok-place.place < length settings.lines = omega (arith, stands.count, c.in_ok-place.ensures.within) in
    heard-next (Holds settings) settings.lines past c.args.self.now.lines.items (plain_asdu c.args.a.now) stands c.in_ok-place.place within (c.in_ok-place.ensures.mine settings past stands)
    c.index_mut-line.result.now c.take_into.new.self c.index_mut-line.ensures.value (λ line asdus held. c.take_into.ensures.after settings.common line asdus held)
