use Rattle.std.proofs.Common.{◌∙◌, arith}
use Rattle.sv_frame.specs.Asdu.{plain_asdu}
use Rattle.station.proofs.StationLemmas.{owns-is}
use Rattle.station.proofs.station.Station.owns_at.Goals as goal

pub returns-then-place-len-clause-mine : goal.returns-then-place-len-clause-mine
returns-then-place-len-clause-mine c settings past stands owned d =
    owns-is settings past c.args.self.now (plain_asdu c.args.a.now) c.args.place d c.line.result.now c.owns.result stands
    (omega (arith, c.if-place-len.true, c.len.ensures)) (c.line.ensures c.line.result.now) c.owns.ensures ∙ owned
