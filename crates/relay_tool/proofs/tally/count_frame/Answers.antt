use Rattle.std.proofs.Common.{◌++◌, reverse, subst}
use Rattle.sv_frame.specs.Asdu.{plain_asdus}
use Rattle.station.specs.KeptStation.{StandsFor}
use Rattle.station.proofs.StationLemmas.{stands-lines}
use Rattle.relay_tool.specs.Output.{sets_of}
use Rattle.relay_tool.specs.KeptTally.{Counts}
use Rattle.relay_tool.proofs.tally.count_frame.Goals as goal

pub returns-in-Pdu-clause-stands : goal.returns-in-Pdu-clause-stands
returns-in-Pdu-clause-stands g c settings past stands =
    subst (λ f. StandsFor settings (reverse (sets_of f) ++ past) c.count_sets.new.station) c.in-Pdu.ensures.exact
    (subst (λ xs. StandsFor settings (reverse (plain_asdus xs) ++ past) c.count_sets.new.station) c.as_slice.ensures.value
    (c.count_sets.ensures.stands settings past (stands-lines settings past c.args.station.now c.frame_into.new.self c.in-Pdu.ensures.same_lines stands)))

pub returns-in-Pdu-clause-counts : goal.returns-in-Pdu-clause-counts
returns-in-Pdu-clause-counts g c settings past stands counts =
    subst (λ f. Counts settings (reverse (sets_of f) ++ past) c.count_sets.new.count) c.in-Pdu.ensures.exact
    (subst (λ xs. Counts settings (reverse (plain_asdus xs) ++ past) c.count_sets.new.count) c.as_slice.ensures.value
    (c.count_sets.ensures.counts settings past (stands-lines settings past c.args.station.now c.frame_into.new.self c.in-Pdu.ensures.same_lines stands) counts))

pub returns-in-Bad-clause-stands : goal.returns-in-Bad-clause-stands
returns-in-Bad-clause-stands g c settings past stands =
    subst (λ f. StandsFor settings (reverse (sets_of f) ++ past) c.frame_into.new.self) c.in-Bad.ensures.exact (stands-lines settings past c.args.station.now c.frame_into.new.self c.in-Bad.ensures.same_lines stands)

pub returns-in-Other-clause-stands : goal.returns-in-Other-clause-stands
returns-in-Other-clause-stands g c settings past stands =
    subst (λ f. StandsFor settings (reverse (sets_of f) ++ past) c.frame_into.new.self) c.in-Other.ensures.exact (stands-lines settings past c.args.station.now c.frame_into.new.self c.in-Other.ensures.same_lines stands)
