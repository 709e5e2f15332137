use Rattle.std.proofs.Common.{◌∙◌, FitsSigned, to_z-of_z, rules}
use Rattle.std.specs.Int.{w128}
use Rattle.apparent_impedance.proofs.Sizes.{norm_below}
use Rattle.apparent_impedance.proofs.impedance_of.Goals as goal

pub invariant_of-result-clause-square_size : goal.invariant_of-result-clause-square_size
invariant_of-result-clause-square_size c =
    let f : FitsSigned w128 c.norm.result = search rules in
    rw (to_z-of_z f ∙ c.norm.ensures) (norm_below c.args.i c.requires.i)
