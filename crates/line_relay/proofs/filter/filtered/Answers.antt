use Rattle.std.proofs.Common.{rules, arith, FitsSigned, to_z-of_z}
use Rattle.std.specs.Int.{w64}
use Rattle.line_relay.proofs.FilterLemmas.{factor_fits, filtered_small}
use Rattle.line_relay.proofs.filter.filtered.Goals as goal

pub returns-clause-small : goal.returns-clause-small
returns-clause-small c = rw c.mimic8.ensures (filtered_small _ _ c.args.sample.now.values c.in-Some-before.before (omega arith) (omega arith))

pub mimic8-requires-clause-a : goal.mimic8-requires-clause-a
mimic8-requires-clause-a c =
    let fits : FitsSigned w64 c.in-Some.mimic.a = search rules in
    rw (to_z-of_z fits) (factor_fits _ (c.requires.mimic c.in-Some.mimic c.in-Some.is).a)

pub mimic8-requires-clause-b : goal.mimic8-requires-clause-b
mimic8-requires-clause-b c =
    let fits : FitsSigned w64 c.in-Some.mimic.b = search rules in
    rw (to_z-of_z fits) (factor_fits _ (c.requires.mimic c.in-Some.mimic c.in-Some.is).b)
